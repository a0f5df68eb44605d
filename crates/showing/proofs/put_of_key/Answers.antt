-- `showing::put_of_key` meets its contract: a value by its key. Assumes nothing.
use Rattle.std.proofs.Common.{ne_eqb}
use Rattle.chars.specs.PutsLaws.{puts-as}
use Rattle.showing.specs.Showing.{value_by}
use Rattle.showing.specs.ParameterLaws.{value-port, value-string}
use Rattle.showing.proofs.put_of_key.Goals as goal
use Rattle.showing.proofs.put_of_key.Goals.{then-key-eq-NO_DEFAULT_ALPN+else-json, else-key-eq-NO_DEFAULT_ALPN, then-key-eq-PORT+else-v-eq2, else-key-eq-PORT}

pub returns-then-key-eq-MANDATORY : goal.returns-then-key-eq-MANDATORY
unfolding value_by
returns-then-key-eq-MANDATORY c = rw c.if-key-eq-MANDATORY.true c.put_keys.ensures

pub returns-then-key-eq-ALPN : goal.returns-then-key-eq-ALPN
unfolding value_by
returns-then-key-eq-ALPN c = rw c.if-key-eq-ALPN.true c.put_protocols.ensures

pub returns-then-json : goal.returns-then-json
unfolding value_by
returns-then-json c =
    rw (c.if-key-eq-NO_DEFAULT_ALPN.true, c.if-json.true) c.put_all.ensures.puts

pub returns-then-v-eq2 : goal.returns-then-v-eq2
returns-then-v-eq2 c =
    puts-as (value-port _ _ c.if-key-eq-PORT.true c.if-v-eq2.true c.get16.ensures.value) c.put_number.ensures.puts

pub returns : goal.returns
returns c =
    puts-as (value-string _ _ c.if-key-eq-MANDATORY.false c.if-key-eq-ALPN.false
    (λ e. elim c.if-key-eq-NO_DEFAULT_ALPN.branch [ then-key-eq-NO_DEFAULT_ALPN+else-json w ↦ w.if-json.false | else-key-eq-NO_DEFAULT_ALPN w ↦ absurd (w.if-key-eq-NO_DEFAULT_ALPN.false e) ])
    (λ e. elim c.if-key-eq-PORT.branch [ then-key-eq-PORT+else-v-eq2 w ↦ ne_eqb _ _ w.if-v-eq2.false | else-key-eq-PORT w ↦ absurd (w.if-key-eq-PORT.false e) ])) c.put_string.ensures
