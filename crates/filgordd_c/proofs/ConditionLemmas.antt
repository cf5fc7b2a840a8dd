-- Sets of options, as words name them one after another. Used in proofs/conditions.
use Rattle.std.proofs.Common.{◌≡◌, ℕ, ◌<◌, List, Option, Some, None, length, get_or, map, ap, sym}
use Rattle.std.proofs.lemmas.List.{get_or-map, length-map}
use Rattle.std.specs.Prelude.{Any}
use Rattle.small_grammar.specs.Text.{◌>>=◌}
use Rattle.cfg_options.specs.Conditions.{Options}
use Rattle.cfg_options.specs.Words.{Sets}
use Rattle.expander.specs.NamedOptions.{with_named, with_option}

-- the set in which one option more is
set_is : (o : List ℕ × Option (List ℕ)) (before after : Options)
    → Sets (Some o) before after → after ≡ with_option o before
set_is o before after h = λ i name value. h name value i

-- what is left of the words names the rest, after a word has set its option
pub next_named : (o : Option (List ℕ × Option (List ℕ))) (words : List (List ℕ)) (before after : Options)
    → Sets o before after → (o >>= λ p. with_named (with_option p before) words) ≡ with_named after words
next_named None words before after h = absurd h
next_named (Some o) words before after h = ap (λ set. with_named set words) (sym (set_is o before after h))

-- what is true of the text of one element is true of one of the texts
pub any_of : {A : Type 0} (P : List ℕ → Type 0) (f : A → List ℕ) (words : List A) (i : ℕ) (d : A)
    → i < length words → P (f (get_or words i d)) → Any P (map f words)
any_of P f words i d within holds = (
  i,
  f (get_or words i d),
  rw (length-map words f) within,
  get_or-map f words i d (f (get_or words i d)) within,
  holds,
)
