-- What a character is, as far as most modes of a dump ask. Assumes nothing: these are definitions.
pub data Class : Type 0 where
  Break : Class
  Blank : Class
  Digit : Class
  Other : Class
