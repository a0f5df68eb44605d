-- The keys of service parameters that have rules here (RULES P2 to P7; RFC 9460 §14.3.2): the same names as in src/.
-- Assumes nothing: these are definitions.
use Rattle.std.specs.Prelude.{ℕ}

-- the keys that a client must understand (RULES P4)
abbrev pub mandatory : ℕ
mandatory = 0

-- the protocols that a service speaks, and that the default one is not among them (RULES P5, P6)
abbrev pub alpn : ℕ
alpn = 1

abbrev pub no_default_alpn : ℕ
no_default_alpn = 2

-- the port of the service (RULES P7)
abbrev pub port : ℕ
port = 3

-- the two address hints (RULES P3)
abbrev pub ipv4hint : ℕ
ipv4hint = 4

abbrev pub ipv6hint : ℕ
ipv6hint = 6

-- reserved as the invalid key (RULES P2)
abbrev pub invalid : ℕ
invalid = 65535
