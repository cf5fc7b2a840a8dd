-- The texts that steps name. (Of this project.)
use Rattle.std.specs.Prelude.{ℕ, List, map, string_bytes}
use Rattle.step_report.specs.declared.texts.Texts.{Texts}

-- the text that is traced with the name of its file, and the names of the other texts, in order of
-- their numbers, from 1
pub record Named : Type 0 where
  pub file : List ℕ
  pub text : List ℕ
  pub others : List (List ℕ)

-- what these are of the code
abbrev pub texts_in : Texts → Named
texts_in t = record {
  file = t.file.now;
  text = t.text.now;
  others = map string_bytes t.others.now;
}
