-- The test vectors of RFC 4648 §10, and texts that are at fault, with the octets before the fault and its place. Assumes nothing.
use Rattle.std.specs.Prelude.{◌≡◌, refl, List, [], ℕ}
use Rattle.chars.specs.Ascii.{ascii}
use Rattle.base64_text.specs.Base64.{value, octet_of, padded, filled, moved, End, good, fault, decode_from, decode}
use Rattle.base64_text.specs.Encoded.{character, encode}

pub vectors : (encode (ascii "") ≡ ascii "")
    × (encode (ascii "f") ≡ ascii "Zg==")
    × (encode (ascii "fo") ≡ ascii "Zm8=")
    × (encode (ascii "foo") ≡ ascii "Zm9v")
    × (encode (ascii "foob") ≡ ascii "Zm9vYg==")
    × (encode (ascii "fooba") ≡ ascii "Zm9vYmE=")
    × (encode (ascii "foobar") ≡ ascii "Zm9vYmFy")
unfolding encode character
vectors = (refl, refl, refl, refl, refl, refl, refl)

abbrev pub Case : List ℕ → List ℕ → End → Type 0
Case text bs e = decode text ≡ record { octets = bs; end = e }

-- blanks stand anywhere, and alone are no octets
pub blanks : Case (ascii "") [] good
    × Case (ascii " ") [] good
    × Case (ascii " Z g= =") (ascii "f") good
    × Case (ascii "Zg== ") (ascii "f") good
unfolding decode decode_from moved padded filled octet_of value
blanks = (refl, refl, refl, refl)

-- a character that is none of the alphabet; padding too early; bits under the padding; characters after it; and characters that are missing
pub faults : Case (ascii "Zm-v") (ascii "f") (fault 2)
    × Case (ascii "=") [] (fault 0)
    × Case (ascii "Z===") [] (fault 1)
    × Case (ascii "Zh==") (ascii "f") (fault 2)
    × Case (ascii "Zm9=") (ascii "fo") (fault 3)
    × Case (ascii "Zg=g") (ascii "f") (fault 3)
    × Case (ascii "Zg===") (ascii "f") (fault 4)
    × Case (ascii "Zg==Zg==") (ascii "f") (fault 4)
    × Case (ascii "Z") [] (fault 1)
    × Case (ascii "Zg") (ascii "f") (fault 2)
    × Case (ascii "Zm8 ") (ascii "fo") (fault 4)
    × Case (ascii "Zg=") (ascii "f") (fault 3)
unfolding decode decode_from moved padded filled octet_of value
faults = (refl, refl, refl, refl, refl, refl, refl, refl, refl, refl, refl, refl)
