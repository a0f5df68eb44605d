-- Where a list stands, and how a character x moves it (docs/COMMAND.md, "Lists"), in the code's order of tests. Assumes nothing: these are definitions.
use Rattle.std.specs.Prelude.{Bool, true, false, cond, ℕ, ◌+◌, ◌*◌, ◌%◌, ltb, eqb}
use Rattle.hexes.specs.Hexes.{digit}
use Rattle.hexes.specs.Hexes as hexes
use Rattle.inputs.specs.Why as why
use Rattle.groups.specs.declared.Kind.{Kind}
use Rattle.groups.specs.State.{State}

abbrev pub state : ℕ → ℕ → ℕ → Bool → Bool → Bool → Bool → Bool → ℕ → State
state p d o c q m v l w = record { front = p; digits = d; octet = o; complete = c; after = q; some = m; several = v; wide = l; why = w }

abbrev pub blank : ℕ → Bool
blank x = cond (eqb x 32) true (cond (eqb x 9) true (cond (eqb x 13) true (eqb x 10)))

abbrev pub begun : State
begun = state 0 0 0 false false false false false 0

abbrev pub but : ℕ → State → State
but w s = state s.front s.digits s.octet s.complete s.after s.some s.several s.wide w

-- ---- a group

-- one digit more: 1, 2, and then 3 and 4 in turn, so that 3 says odd and 4 even
abbrev pub more : ℕ → ℕ
more d = cond (ltb d 4) (d + 1) 3

-- a digit; every second one completes an octet
abbrev pub waiting : ℕ → ℕ → State → State
waiting d x s = state s.front d (hexes.value x) s.complete s.after s.some s.several s.wide s.why

abbrev pub completing : ℕ → ℕ → State → State
completing d x s = state s.front d (s.octet % 16 * 16 + hexes.value x) true s.after s.some s.several s.wide s.why

abbrev pub digit_on : ℕ → State → State
digit_on x s = cond (eqb (more s.digits % 2) 1) (waiting (more s.digits) x s) (completing (more s.digits) x s)

-- a character of 0x
abbrev pub fronted : ℕ → State → State
fronted p s = state p s.digits s.octet s.complete s.after s.some s.several s.wide s.why

abbrev pub prefix : ℕ → State → State
prefix x s =
    cond (eqb s.front 0)
    (cond (eqb x 48) (fronted 1 s) (but why.form s))
    (cond (eqb x 120) (fronted 2 s) (cond (eqb x 88) (fronted 2 s) (but why.form s)))

-- a character of a group; a mark must stand before it where groups on a line want one
abbrev pub digital : ℕ → State → State
digital x s = cond (digit x) (digit_on x s) (but why.form s)

abbrev pub begins : Kind → ℕ → State → State
begins f x s = cond f.prefix (cond (ltb s.front 2) (prefix x s) (digital x s)) (digital x s)

abbrev pub within : Kind → ℕ → State → State
within f x s = cond f.marked (cond s.after (but why.form s) (begins f x s)) (begins f x s)

-- ---- its end

-- a group has ended, and was wide or not
abbrev pub ended : Bool → State → State
ended l s = state 0 0 s.octet s.complete true true (cond s.some true s.several) (cond l true s.wide) s.why

-- a group of one digit is an octet, or has a digit too few
abbrev pub completed : State → State
completed s = state s.front s.digits s.octet true s.after s.some s.several s.wide s.why

abbrev pub ended_one : Kind → State → State
ended_one f s = cond f.single (ended false (completed s)) (but why.form s)

-- a wide group stands alone on its line, or alone in the list, if anywhere
abbrev pub allowed : Kind → State → State
allowed f s =
    cond s.wide
    (cond s.several (but why.groups s) (cond f.lines s (cond f.whole s (but why.groups s))))
    s

-- what stands between groups ends one, where one has begun
abbrev pub close : Kind → State → State
close f s =
    cond (eqb s.digits 0) (cond (eqb s.front 0) s (but why.form s))
    (cond (eqb s.digits 1) (allowed f (ended_one f s))
    (cond (eqb s.digits 3) (but why.form s)
    (allowed f (ended (ltb 2 s.digits) s))))

-- ---- between groups

-- a line break
abbrev pub line : Kind → State → State
line f s = state s.front s.digits s.octet s.complete false (cond f.lines false s.some) s.several s.wide s.why

-- a mark, one between two groups
abbrev pub mark : State → State
mark s = cond s.after (state s.front s.digits s.octet s.complete false s.some s.several s.wide s.why) (but why.form s)

abbrev pub marking : Kind → ℕ → State → State
marking f x s = cond (eqb f.mark 0) (within f x s) (cond (eqb x f.mark) (mark (close f s)) (within f x s))

abbrev pub stepping : Kind → ℕ → State → State
stepping f x s = cond (eqb x 10) (line f (close f s)) (cond (blank x) (close f s) (marking f x s))

-- a character: no octet is complete yet
abbrev pub fresh : State → State
fresh s = state s.front s.digits s.octet false s.after s.some s.several s.wide s.why

unfoldable pub moved : Kind → ℕ → State → State
moved f x s = stepping f x (fresh s)
