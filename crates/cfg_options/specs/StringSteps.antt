-- What a part of a string's text stands for, as the functions inside the crate have it.
use Rattle.std.specs.Prelude.{ℕ, ◌<◌, Bool, List, [], ◌∷◌, length, Option}
use Rattle.std.specs.Prelude.{None, IfSome, encode_utf8}
use denote.Ref.{Bor}
use Rattle.cfg_options.specs.Strings.{first_unit}
use Rattle.cfg_options.specs.declared.strings.StringPart.{StringPart}
use Rattle.cfg_options.specs.declared.strings.StringPart.TheVariants.{Nothing, Byte, Char}

-- its bytes
abbrev pub bytes_of : StringPart → List ℕ
bytes_of Nothing = []
bytes_of (Byte b) = b ∷ []
bytes_of (Char c) = encode_utf8 c

-- its bytes, and the text after it
abbrev pub unit_and_rest : StringPart × Bor (List ℕ) → List ℕ × List ℕ
unit_and_rest p = (bytes_of p.0, p.1.now)

-- the text after what is read is shorter than the whole
abbrev pub LeavesLess : {A : Type 0} → List ℕ → Option (A × Bor (List ℕ)) → Type 0
LeavesLess text read = IfSome read (λ p. length p.1.now < length text)

-- what a text begins with, and the text after that
abbrev pub unit_at : Bool → List ℕ → Option (List ℕ × List ℕ)
unit_at is_raw [] = None
unit_at is_raw (c ∷ rest) = first_unit is_raw c rest
