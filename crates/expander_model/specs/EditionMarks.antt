-- The edition that a mark before a definition says.
use Rattle.std.specs.Prelude.{ℕ, List, Option, Some, None, codes, unwrap_or, if◌then◌else◌}
use Rattle.bridge.specs.Text.{same_kind, is_char}
use Rattle.cfg_options.specs.small_grammar.Text.{same_text, ◌>>=◌, ◌>>◌}
use Rattle.tt.specs.FirstTrees.{first_ident, first_punct, first_group}
use Rattle.tt_data.specs.Forest.{Forest}
use Rattle.tt_data.specs.declared.delimiter.DelimiterKind.TheVariants.{Bracket}
use Rattle.tt_data.specs.declared.edition.Edition.{Edition}
use Rattle.tt_data.specs.declared.edition.Edition.TheVariants.{Edition2015, Edition2018, Edition2021, Edition2024}

-- the word of an edition: no text has it as an identifier, since it begins with `$`
abbrev pub edition_word : Edition → List ℕ
edition_word Edition2015 = codes "$2015"
edition_word Edition2018 = codes "$2018"
edition_word Edition2021 = codes "$2021"
edition_word Edition2024 = codes "$2024"

abbrev pub edition_named : List ℕ → Option Edition
edition_named word =
    if same_text word (edition_word Edition2015) then Some Edition2015
    else if same_text word (edition_word Edition2018) then Some Edition2018
    else if same_text word (edition_word Edition2021) then Some Edition2021
    else if same_text word (edition_word Edition2024) then Some Edition2024
    else None

-- the edition of the mark that trees begin with: `# [ $2021 ]`
abbrev pub marked_edition : Forest → Option Edition
marked_edition f = do
  (pound, after_pound) ← first_punct f
  is_char "#" pound
  (d, inner, rest) ← first_group after_pound
  same_kind d.kind Bracket
  (word, after_word) ← first_ident inner
  edition_named word.sym

-- the edition of a definition's identifiers: that of its mark, or else this one
abbrev pub edition_in : Edition → Forest → Edition
edition_in edition piece = unwrap_or (marked_edition piece) edition
