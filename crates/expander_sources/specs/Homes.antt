-- Homes of definitions: crates other than that of the text that is expanded.
use Rattle.std.specs.Prelude.{ℕ, Bool, ◌&&◌, not, List, ◌++◌, chars, codes, Option, Some, None}
use Rattle.std.specs.Prelude.{if◌then◌else◌, refl}
use Rattle.std.specs.Coded.{Coded, code_by, coded×, coded_ℕ, coded_list}
use Rattle.bridge.specs.Spelling.{is_rooted, root_mark}
use Rattle.rustc_lexer.specs.Character.{is_ident}
use Rattle.small_grammar.specs.Text.{same_text}
use Rattle.small_grammar.specs.Tokens.{is_among, reserved}
use Rattle.tt_data.specs.contracts.edition.Edition as edition_row
use Rattle.tt_data.specs.declared.edition.Edition.{Edition}

-- another crate: the word that its `$crate` is printed as, and the edition of its definitions
pub record Home : Type 0 where
  pub root : List ℕ
  pub edition : Edition

-- a home is coded as its two parts
abbrev pub home_code : Coded Home
home_code =
    code_by (List ℕ × Edition) (coded× (coded_list coded_ℕ) edition_row.the_row.coded)
    (λ h. (h.root, h.edition))
    (λ p. record { root = p.0; edition = p.1 }) (λ _. refl)

-- the text of the identifier that stands for the root of a crate
abbrev pub root_of : List ℕ → List ℕ
root_of word = root_mark ++ word

-- a word that can stand for a crate: an identifier that is neither reserved nor `_`, and that what
-- stands for the root is spelled as
abbrev pub is_root_word : List ℕ → Bool
is_root_word word = is_ident (chars word)
    && (not (is_among reserved word)
    && (not (same_text word (codes "_")) && is_rooted (root_of word)))

-- the home with this root, if the word can be one
abbrev pub home_named : List ℕ → Edition → Option Home
home_named word edition = if is_root_word word
    then Some (record { root = word; edition = edition }) else None
