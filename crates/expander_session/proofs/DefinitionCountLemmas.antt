-- A text has at most as many definitions as bytes: each begins with a definition keyword, and no
-- token is read as two.
use Rattle.std.proofs.Common.{◌≡◌, ℕ, zero, suc, ◌+◌, ◌≤◌, ◌<◌, ◌^◌, List, [], ◌∷◌, ◌++◌, length, length-append, drop, take, map, refl, ap, subst, ◌∙◌, arith, Bool, true, false, if◌then◌else◌, sum_by, IsUtf8}
use Rattle.std.specs.Prelude.{All, Option, Some, None, Result, Ok, Err, ◌&&◌, chars, is_none, is_some, not}
use Rattle.std.specs.List.{list_all, list_any}
use Rattle.std.proofs.lemmas.List.Elements.{All-head, All-tail}
use Rattle.std.proofs.lemmas.List.Sums.{sum_by-cons}
use Rattle.rustc_lexer.specs.Lexing.{tokens_of}
use Rattle.rustc_lexer.specs.declared.token.DocStyle.TheVariants.{Outer, Inner}
use Rattle.rustc_lexer.specs.declared.token.Token.{Token}
use Rattle.rustc_lexer.specs.declared.token.TokenKind.{TokenKind}
use Rattle.rustc_lexer.specs.declared.token.TokenKind.TheVariants as kind
use Rattle.bridge.specs.Reading.{IsReading, PlacedToken, TextStep, bad, placed_from, reading, step}
use Rattle.bridge.specs.Text.{is_punct}
use Rattle.bridge.specs.TokenSteps.{literal_form, literal_class, class_of, steps_of, steps_of_class, text_reading, text_steps}
use Rattle.bridge.specs.declared.reading.outcome.ReadFault.{ReadFault}
use Rattle.mbe.specs.Grammar.{Grammar}
use Rattle.tt_data.proofs.ForestLemmas.{walk-joined}
use Rattle.tt_data.specs.Forest.{Forest, empty, leaf, group}
use Rattle.tt_data.specs.Walk.{Step, at_leaf, closes, walk}
use Rattle.tt_data.specs.declared.edition.Edition.{Edition}
use Rattle.expander_model.specs.declared.dialect.Dialect.{Dialect}
use Rattle.tt_data.specs.declared.leaf.LitKind.{LitKind}
use Rattle.expander_model.specs.EqualTrees.{same_forest}
use Rattle.expander_model.specs.Definitions.{Definition, definition_of}
use Rattle.expander_model.specs.Faults.{is_definition_word}
use Rattle.expander_model.specs.DefinitionTrees.{definition_trees, trees_in}
use Rattle.expander_session.specs.Layered.{layers}
use Rattle.expander_model.specs.Meaning.{Layers, ReadMeaning, meaning, meaning_in, meaning_over, member, members_after, members_in, with_definition}
use Rattle.expander_scope.specs.NewNumbers.{needed}
use Rattle.expander_model.specs.Pieces.{pieces, put_together, relative, separated}
use Rattle.expander_session.specs.Replies.{HasCause, NeedsNumbers, definitions_in, meaning_of_state}
use Rattle.expander_session.specs.State.{State, definitions_of, layers_of}
use Rattle.expander_scope.specs.declared.refusal.Refusal.TheVariants.{Numbers}
use Rattle.expander_model.proofs.SplittingLemmas.{put_together-cut}
use Rattle.expander_session.proofs.WordLemmas.{quiet_alone, quiet_piece}

abbrev one_if : Bool → ℕ
one_if true = 1
one_if false = 0

at_most_one : (b : Bool) → one_if b + 0 ≤ 1
at_most_one true = omega arith
at_most_one false = omega arith

at_most_one_behind : (b : Bool) → 0 + (one_if b + 0) ≤ 1
at_most_one_behind true = omega arith
at_most_one_behind false = omega arith

-- how many of the steps are words that begin a definition
abbrev words : List Step → ℕ
words [] = 0
words (s ∷ ss) = one_if (is_definition_word s) + words ss

words-append : (xs ys : List Step) → words (xs ++ ys) ≡ words xs + words ys
words-append [] ys = omega arith
words-append (x ∷ xs) ys = omega (arith, words-append xs ys)

-- ---- a definition has such a word

none_if : (b : Bool) (n : ℕ) → one_if b + n ≡ 0 → (b ≡ false) × (n ≡ 0)
none_if true n e = absurd (omega (arith, e))
none_if false n e = (refl, omega (arith, e))

and_not : (b c : Bool) → b ≡ false → c ≡ true → (not b && c) ≡ true
and_not true c e h = cc
and_not false c e h = h

no_words : (ss : List Step) → words ss ≡ 0 → list_all (λ s. not (is_definition_word s)) ss ≡ true
no_words [] e = refl
no_words (s ∷ ss) e =
    let parts = none_if (is_definition_word s) (words ss) e in
    and_not (is_definition_word s) (list_all (λ t. not (is_definition_word t)) ss) parts.0 (no_words ss parts.1)

has_word : (p : Forest) (d : Definition) → definition_of p ≡ Some d → 1 ≤ words (walk p)
has_word p d e = go (words (walk p)) refl
  where
    go : (n : ℕ) → words (walk p) ≡ n → 1 ≤ n
    go zero none = absurd (let quiet : is_none (definition_of p) ≡ true = quiet_piece p (no_words (walk p) none) in let some : is_none (definition_of p) ≡ false = ap is_none e in cc)
    go (suc n) some = omega arith

words_together : (p : Forest) (ps : List Forest) → words (walk (put_together (p ∷ ps))) ≡ words (walk p) + words (walk (put_together ps))
words_together p ps = ap words (walk-joined p (put_together ps)) ∙ words-append (walk p) (walk (put_together ps))

-- so there are at most as many definitions
few_members : (l : Layers) (depth : ℕ) (before : List Definition) (ps : List Forest)
    → length (trees_in (members_after l depth before ps)) ≤ words (walk (put_together ps))
few_members l depth before [] = omega arith
few_members l depth before (p ∷ ps) = go (definition_of p) refl (λ now. few_members l depth now ps)
  where
    go : (o : Option Definition) → definition_of p ≡ o
        → ((now : List Definition) → length (trees_in (members_after l depth now ps)) ≤ words (walk (put_together ps)))
        → length (trees_in (member l depth before p o ∷ members_after l depth (with_definition o before) ps)) ≤ words (walk (put_together (p ∷ ps)))
    go None e later = omega (arith, later before, words_together p ps)
    go (Some d) e later = omega (arith, later (d ∷ before), words_together p ps, has_word p d e)

-- ---- a `;` that stands alone is no such word

words-separated : (f : Forest) → words (walk (separated f)) ≡ words (walk f)
words-separated empty = refl
words-separated (leaf l rest) =
    ap (λ b. one_if b + words (walk (separated rest))) (quiet_alone (is_punct ";" l) l) ∙ ap (λ n. one_if (is_definition_word (at_leaf l)) + n) (words-separated rest)
words-separated (group d inner rest) =
    omega (
      arith,
      words-append (walk inner) (closes d.kind d.close_span ∷ walk (separated rest)),
      words-append (walk inner) (closes d.kind d.close_span ∷ walk rest),
      words-separated rest,
    )

few_definitions : (l : Layers) (depth : ℕ) (initial : List Definition) (f : Forest) → length (trees_in (members_in l depth initial f)) ≤ words (walk f)
few_definitions l depth initial f =
    subst (λ n. length (trees_in (members_in l depth initial f)) ≤ n)
    (ap (λ g. words (walk g)) (put_together-cut (separated f)) ∙ words-separated f) (few_members l depth initial (pieces f))

-- ---- a token is read as at most one such word

abbrev words_read : List TextStep → ℕ
words_read [] = 0
words_read (step s ∷ more) = one_if (is_definition_word s) + words_read more
words_read (bad range ∷ more) = words_read more

words_read-append : (xs ys : List TextStep) → words_read (xs ++ ys) ≡ words_read xs + words_read ys
words_read-append [] ys = omega arith
words_read-append (step s ∷ xs) ys = omega (arith, words_read-append xs ys)
words_read-append (bad range ∷ xs) ys = words_read-append xs ys

words_read-step : (ss : List Step) → words_read (map step ss) ≡ words ss
words_read-step [] = refl
words_read-step (s ∷ ss) = ap (λ n. one_if (is_definition_word s) + n) (words_read-step ss)

one_value : (o : Option LitKind) (suffix_start : ℕ) (t : PlacedToken) (more : List PlacedToken) → words_read (steps_of_class (literal_class o suffix_start) t more) ≤ 1
one_value None suffix_start t more = omega arith
one_value (Some f) suffix_start t more = omega arith

one_word : (k : TokenKind) (t : PlacedToken) (more : List PlacedToken) → words_read (steps_of_class (class_of k) t more) ≤ 1
one_word kind.Ident t more = at_most_one _
one_word (kind.Lifetime false) t more = at_most_one_behind _
one_word (kind.Lifetime true) t more = omega arith
one_word (kind.Literal k suffix_start) t more = one_value (literal_form k) suffix_start t more
one_word (kind.LineComment None) t more = omega arith
one_word (kind.LineComment (Some Outer)) t more = omega arith
one_word (kind.LineComment (Some Inner)) t more = omega arith
one_word (kind.BlockComment None true) t more = omega arith
one_word (kind.BlockComment None false) t more = omega arith
one_word (kind.BlockComment (Some Outer) true) t more = omega arith
one_word (kind.BlockComment (Some Inner) true) t more = omega arith
one_word (kind.BlockComment (Some style) false) t more = omega arith
one_word _ t more = omega arith

few_words : (start : ℕ) (text : List ℕ) (ts : List Token) → words_read (steps_of (placed_from start text ts)) ≤ length ts
few_words start text [] = omega arith
few_words start text (t ∷ ts) =
    let here : PlacedToken = record { kind = t.kind; start = start; text = take t.len text } in
    let behind : List PlacedToken = placed_from (start + t.len) (drop t.len text) ts in
    omega (
      arith,
      words_read-append (steps_of_class (class_of t.kind) here behind) (steps_of behind),
      one_word t.kind here behind,
      few_words (start + t.len) (drop t.len text) ts,
    )

-- ---- and a text has at most as many tokens as bytes

few_tokens : (ts : List Token) → All (λ (t : Token). 1 ≤ t.len) ts → length ts ≤ sum_by (λ (t : Token). t.len) ts
few_tokens [] some = omega arith
few_tokens (t ∷ ts) some =
    omega (
      arith,
      sum_by-cons (λ (x : Token). x.len) t ts,
      All-head (λ (x : Token). 1 ≤ x.len) t ts some,
      few_tokens ts (All-tail (λ (x : Token). 1 ≤ x.len) t ts some),
    )

-- ---- numbers

or_le : (b : Bool) (x y n : ℕ) → x ≤ n → y ≤ n → (if b then x else y) ≤ n
or_le true x y n h k = h
or_le false x y n h k = k

-- each tree needs one number at most
few_needed : (known ts : List Forest) → needed known ts ≤ length ts
few_needed known [] = omega arith
few_needed known (t ∷ more) =
    or_le (list_any (same_forest t) known) (needed known more) (1 + needed (t ∷ known) more) (length (t ∷ more))
    (omega (arith, few_needed known more)) (omega (arith, few_needed (t ∷ known) more))

-- what is told of reading, and of a text's tokens
pub record TokenLaws : Type 0 where
  pub walk_read : (steps : List TextStep) (f : Forest) → reading steps ≡ Ok f → IsReading steps f
  pub positive : (text : List ℕ) → IsUtf8 text → All (λ (t : Token). 1 ≤ t.len) (tokens_of (chars text))
  pub whole : (text : List ℕ) → IsUtf8 text → sum_by (λ (t : Token). t.len) (tokens_of (chars text)) ≡ length text

module _ (laws : TokenLaws) (grammar : Grammar) (edition : Edition) (dialect : Dialect) (depth : ℕ) (initial : List Definition) (text : List ℕ) (utf8 : IsUtf8 text) where
  few_read : (r : Result Forest ReadFault) → text_reading text ≡ r → length (definitions_in (meaning_over (layers grammar edition dialect) depth initial r)) ≤ length text
  few_read (Err fault) is = omega arith
  few_read (Ok f) is =
      let ts : List Token = tokens_of (chars text) in
      let read : words_read (text_steps text) ≡ words (walk f) = ap words_read (laws.walk_read (text_steps text) f is) ∙ words_read-step (walk f) in
      omega (
        arith,
        read,
        few_definitions (layers grammar edition dialect) depth initial f,
        few_words 0 text ts,
        few_tokens ts (laws.positive text utf8),
        laws.whole text utf8,
      )

  -- a text has at most as many definitions as bytes
  pub definitions_in_bytes : length (definitions_in (meaning_in (layers grammar edition dialect) depth initial text)) ≤ length text
  definitions_in_bytes = few_read (text_reading text) refl

-- so there are numbers for all of them where none was given before
pub numbers_suffice : TokenLaws → (grammar : Grammar) (edition : Edition) (dialect : Dialect) (depth : ℕ) (text : List ℕ) → IsUtf8 text → length text < 2 ^ 32
    → NeedsNumbers 0 [] (meaning (layers grammar edition dialect) depth text) → ⊥
numbers_suffice laws grammar edition dialect depth text utf8 short many =
    let all : List Forest = definitions_in (meaning (layers grammar edition dialect) depth text) in
    omega (arith, short, many, definitions_in_bytes laws grammar edition dialect depth [] text utf8, few_needed [] all)

few_trees : (ps : List Forest) → length (definition_trees ps) ≤ length ps
few_trees [] = omega arith
few_trees (p ∷ ps) =
    or_shorter (is_some (definition_of (relative p))) (relative p) (definition_trees ps) (length ps) (few_trees ps)
  where
    or_shorter : (b : Bool) (t : Forest) (ts : List Forest) (n : ℕ) → length ts ≤ n → length (if b then t ∷ ts else ts) ≤ suc n
    or_shorter true t ts n h = omega (arith, h)
    or_shorter false t ts n h = omega (arith, h)

-- nor does a session lack any that gave none before
pub first_has_numbers : ((grammar : Grammar) (edition : Edition) (dialect : Dialect) (depth : ℕ) (initial : List Definition) (text : List ℕ) → IsUtf8 text
    → length (definitions_in (meaning_in (layers grammar edition dialect) depth initial text)) ≤ length text)
    → {G : Type 0} (answer : G → Grammar) (s : State G) → IsUtf8 s.text → length s.prelude + length s.text < 2 ^ 32 → s.given ≡ 0 → s.trees ≡ []
    → HasCause (layers_of answer s) s Numbers → ⊥
first_has_numbers few answer s utf8 short none no_trees many =
    let m : Result ReadMeaning ReadFault = meaning_of_state (layers_of answer s) s in
    let all : List Forest = definition_trees s.prelude ++ definitions_in m in
    let need : 2 ^ 32 ≤ 0 + needed [] all =
    subst (λ (trees : List Forest). 2 ^ 32 ≤ 0 + needed trees all) no_trees (subst (λ (n : ℕ). 2 ^ 32 ≤ n + needed s.trees all) none many) in
    omega (
      arith,
      short,
      need,
      few_needed [] all,
      length-append (definition_trees s.prelude) (definitions_in m),
      few_trees s.prelude,
      few (answer s.grammar) s.edition s.dialect s.depth (definitions_of s.prelude) s.text utf8,
    )
