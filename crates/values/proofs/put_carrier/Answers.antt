-- `values::put_carrier` meets its contract: a carrier's name is written. Assumes nothing.
use Rattle.values.specs.Values.{carrier_of}
use Rattle.values.proofs.put_carrier.Goals as goal

pub returns-in-Dhcp4 : goal.returns-in-Dhcp4
unfolding carrier_of
returns-in-Dhcp4 c = rw c.in-Dhcp4.is c.put_all.ensures.puts

pub returns-in-Dhcp6 : goal.returns-in-Dhcp6
unfolding carrier_of
returns-in-Dhcp6 c = rw c.in-Dhcp6.is c.put_all-in-Dhcp6.ensures.puts

pub returns-in-Router : goal.returns-in-Router
unfolding carrier_of
returns-in-Router c = rw c.in-Router.is c.put_all-in-Router.ensures.puts

pub returns-in-Ike4 : goal.returns-in-Ike4
unfolding carrier_of
returns-in-Ike4 c = rw c.in-Ike4.is c.put_all-in-Ike4.ensures.puts

pub returns-in-Ike6 : goal.returns-in-Ike6
unfolding carrier_of
returns-in-Ike6 c = rw c.in-Ike6.is c.put_all-in-Ike6.ensures.puts
