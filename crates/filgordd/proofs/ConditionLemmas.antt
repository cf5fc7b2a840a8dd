-- Sets of options, as words name them one after another.
use Rattle.std.proofs.Common.{◌≡◌, ◌∙◌, ℕ, ◌+◌, ◌<◌, false, List, [], ◌∷◌, ◌++◌, Option, Some, None, ap, drop, get_or, length, map, sym, take}
use Rattle.std.proofs.lemmas.List.{drop_more, map-append, take-append-drop, take_more}
use Rattle.std.specs.Borrow.{Bor}
use Rattle.std.specs.Prelude.{is_some}
use Rattle.small_grammar.specs.Text.{◌>>=◌}
use Rattle.cfg_options.specs.Conditions.{Options}
use Rattle.cfg_options.specs.Words.{Sets, option_of}
use Rattle.expander.specs.NamedOptions.{no_options, with_named, with_option}
use Rattle.filgordd.specs.Conditions.{IsFirstWrong, SetsNone}

-- the set in which no option is
pub none_is : (o : Options)
    → ((name : List ℕ) (value : Option (List ℕ)) → o name value ≡ false) → o ≡ no_options
none_is o h = λ i name value. h name value i

-- one option more is set
set_is : (o : List ℕ × Option (List ℕ)) (before after : Options)
    → Sets (Some o) before after → with_option o before ≡ after
set_is o before after h = sym (λ i name value. h name value i)

-- a word that sets its option
one_named : (o : Option (List ℕ × Option (List ℕ))) (before after : Options)
    → Sets o before after → (o >>= λ p. Some (with_option p before)) ≡ Some after
one_named None before after h = absurd h
one_named (Some o) before after h = ap Some (set_is o before after h)

-- one word more sets its option too
named_more : (words : List (List ℕ)) (word : List ℕ) (start before after : Options)
    → with_named start words ≡ Some before → Sets (option_of word) before after
    → with_named start (words ++ word ∷ []) ≡ Some after
named_more [] word start before after h s =
    let same : start ≡ before = cc h in
    ap (λ (b : Options). option_of word >>= λ p. Some (with_option p b)) same
    ∙ one_named (option_of word) before after s
named_more (w ∷ words) word start before after h s =
    go (option_of w) (λ p e. named_more words word (with_option p start) before after e s) h
  where
    go : (o : Option (List ℕ × Option (List ℕ)))
        → ((p : List ℕ × Option (List ℕ))
        → with_named (with_option p start) words ≡ Some before
        → with_named (with_option p start) (words ++ word ∷ []) ≡ Some after)
        → (o >>= λ p. with_named (with_option p start) words) ≡ Some before
        → (o >>= λ p. with_named (with_option p start) (words ++ word ∷ [])) ≡ Some after
    go None more e = absurd (cc e)
    go (Some p) more e = more p e

abbrev texts_of : List (Bor (List ℕ)) → List (List ℕ)
texts_of words = map (λ w. w.now) words

-- the words so far and one more, which sets its option
pub one_more : (words : List (Bor (List ℕ))) (i : ℕ) (d : Bor (List ℕ)) (before after : Options)
    → i < length words → with_named no_options (map (λ w. w.now) (take i words)) ≡ Some before
    → Sets (option_of (get_or words i d).now) before after
    → with_named no_options (map (λ w. w.now) (take (i + 1) words)) ≡ Some after
one_more words i d before after lt h s =
    ap (λ ws. with_named no_options (texts_of ws)) (take_more words i d lt)
    ∙ ap (with_named no_options) (map-append (λ w. w.now) (take i words) (get_or words i d ∷ []))
    ∙ named_more (texts_of (take i words)) (get_or words i d).now no_options before after h s

-- a word behind those that set their options is the first that sets none, if it does not
pub first_wrong : (words : List (Bor (List ℕ))) (i : ℕ) (d : Bor (List ℕ)) (o : Options)
    → i < length words → with_named no_options (map (λ w. w.now) (take i words)) ≡ Some o
    → SetsNone (get_or words i d).now
    → IsFirstWrong (map (λ w. w.now) words) (get_or words i d).now
first_wrong words i d o lt h wrong = record {
  front = texts_of (take i words);
  behind = texts_of (drop (i + 1) words);
  words_are =
      ap texts_of (sym (take-append-drop i words))
      ∙ map-append (λ w. w.now) (take i words) (drop i words)
      ∙ ap (λ ws. texts_of (take i words) ++ texts_of ws) (drop_more words i d lt);
  before = ap is_some h;
  wrong = wrong;
}
