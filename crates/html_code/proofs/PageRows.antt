-- Worked rows of the definitions of pages.
use Rattle.std.proofs.Common.{◌≡◌, [], ◌∷◌, ◌++◌, false, refl}
use Rattle.std.specs.Prelude.{codes}
use Rattle.std.specs.Str.{chars}
use Rattle.rustc_lexer.specs.declared.token.Token.{Token}
use Rattle.rustc_lexer.specs.declared.token.TokenKind.{TokenKind}
use Rattle.rustc_lexer.specs.declared.token.TokenKind.TheVariants.{Ident, Plus, Whitespace}
use Rattle.ucd_derived.proofs.Computing.{ucd_derived}
use Rattle.html_code.specs.Escaping.{escaped}
use Rattle.html_code.specs.Parts.{html_of}
use Rattle.html_code.specs.SourceParts.{Point, source_from}

-- `<` and `&`
markup_by_number : escaped (codes "a<&b") ≡ codes "a&#60;&#38;b"
unfolding chars lib.Utf8.encode ucd_derived
markup_by_number = refl

-- U+202E, which turns the direction of what follows, as its mark
turn_by_mark : escaped (226 ∷ 128 ∷ 174 ∷ []) ≡ 226 ∷ 159 ∷ 166 ∷ 85 ∷ 43 ∷ 50 ∷ 48 ∷ 50 ∷ 69 ∷ 226 ∷ 159 ∷ 167 ∷ []
unfolding chars lib.Utf8.encode ucd_derived
turn_by_mark = refl

-- U+3164, a Hangul filler, which shows nothing, as its mark
filler_by_mark : escaped (227 ∷ 133 ∷ 164 ∷ []) ≡ 226 ∷ 159 ∷ 166 ∷ 85 ∷ 43 ∷ 51 ∷ 49 ∷ 54 ∷ 52 ∷ 226 ∷ 159 ∷ 167 ∷ []
unfolding chars lib.Utf8.encode ucd_derived
filler_by_mark = refl

-- U+E0041, a tag, in five digits
tag_by_mark : escaped (243 ∷ 160 ∷ 129 ∷ 129 ∷ []) ≡ 226 ∷ 159 ∷ 166 ∷ 85 ∷ 43 ∷ 69 ∷ 48 ∷ 48 ∷ 52 ∷ 49 ∷ 226 ∷ 159 ∷ 167 ∷ []
unfolding chars lib.Utf8.encode ucd_derived
tag_by_mark = refl

abbrev start : Point
start = record { faults = []; behind = false }

abbrev one : TokenKind → Token
one kind = record { kind = kind; len = 1 }

-- `a +b` on the left
text_of_three : html_of (source_from [] start 0 0 (codes "a +b") (one Ident ∷ one Whitespace ∷ one Plus ∷ one Ident ∷ [])) ≡ codes "a +b"
unfolding chars lib.Utf8.encode ucd_derived
text_of_three = refl

-- a Hebrew letter has its own element
letter_on_its_own : html_of (source_from [] start 0 0 (215 ∷ 144 ∷ []) (record { kind = Ident; len = 2 } ∷ [])) ≡ codes "<bdi>" ++ 215 ∷ 144 ∷ codes "</bdi>"
unfolding chars lib.Utf8.encode ucd_derived
letter_on_its_own = refl
