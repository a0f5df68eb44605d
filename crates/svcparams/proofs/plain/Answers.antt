-- `svcparams::plain` meets its contract. Assumes nothing.
use Rattle.std.proofs.Common.{rules}
use Rattle.svcparams.proofs.ValueLaws.{value-alpn, value-no-default-alpn, value-port, value-other}
use Rattle.svcparams.proofs.plain.Goals as goal

pub returns-then-key-eq-ALPN : goal.returns-then-key-eq-ALPN
returns-then-key-eq-ALPN c = λ ks q. search (rules, value-alpn)

pub returns-then-key-eq-NO_DEFAULT_ALPN : goal.returns-then-key-eq-NO_DEFAULT_ALPN
returns-then-key-eq-NO_DEFAULT_ALPN c = λ ks q. search (rules, value-no-default-alpn)

pub returns-then-key-eq-PORT : goal.returns-then-key-eq-PORT
returns-then-key-eq-PORT c = λ ks q. search (rules, value-port)

pub returns : goal.returns
returns c = λ ks q. search (rules, value-other)
