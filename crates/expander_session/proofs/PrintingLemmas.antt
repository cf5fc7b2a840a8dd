-- Events that are emitted, and the text that they print.
use Rattle.std.proofs.Common.{◌≡◌, ℕ, ◌+◌, append_assoc, append-nil, length, length-append, subst, List, [], ◌∷◌, ◌++◌, refl, sym, ap, ◌∙◌, Bool, true, false, if◌then◌else◌}
use Rattle.std.specs.Prelude.{◌||◌, Option, Some, None, codes, filter, map, is_some}
use Rattle.std.specs.Str.{bytes_eq, chars, is_utf8}
use Rattle.std.specs.Char.{encode_utf8}
use Rattle.std.proofs.lemmas.List.{map-append}
use Rattle.std.proofs.lemmas.Simd.{map-map}
use Rattle.std.proofs.lemmas.List.Elements.{filter-append}
use Rattle.std.proofs.lemmas.Slice.Eq.{bytes_eq-Decides}
use Rattle.ucd_derived.specs.Binary.{is_xid_start, is_xid_continue}
use Rattle.ucd_derived.specs.XidContinueRanges.{xid_continue_ranges}
use Rattle.ucd_derived.specs.XidStartRanges.{xid_start_ranges}
use Rattle.ucd_table.specs.Rows.{in_ranges}
use Rattle.tt_data.specs.Walk.{Step, at_leaf, opens, closes}
use Rattle.tt_data.specs.declared.leaf.IdentIsRaw.{IdentIsRaw}
use Rattle.tt_data.specs.declared.leaf.IdentIsRaw.TheVariants as is_raw
use Rattle.tt_data.specs.declared.leaf.Leaf.{Leaf}
use Rattle.tt_data.specs.declared.leaf.Leaf.TheVariants as as_leaf
use Rattle.tt_data.specs.declared.span.Span.{Span}
use Rattle.tt_data.specs.declared.span.TextRange.{TextRange}
use Rattle.bridge.specs.Printers.{HasPut}
use Rattle.bridge.specs.Printing as bare_printing
use Rattle.bridge.specs.Printing.{is_visible_step, left_out_from, print_of}
use Rattle.bridge.specs.Spelling.{leaf_spelling, spelling}
use Rattle.expander_model.specs.declared.fault.FaultKind.TheVariants.{NestedDefinition}
use Rattle.expander_session.specs.declared.emitter.Emitter.{Emitter}
use Rattle.expander_session.specs.Expanded.{origin_of, origin_text}
use Rattle.expander_model.specs.Expansion.{PlacedStep}
use Rattle.expander_model.specs.Faults.{place, fault_at, is_definition_word, nested, unspellable}
use Rattle.expander_session.specs.Emitting.{HasOutput, PutsOut, faults_at, faults_in, numbers_left_out, told_from, tokens_in, word_places, words_told}
use Rattle.expander_model.specs.Printing.{bare, visible, printed, left_out, spelled, spelling_before, steps_of, text_of}
use Rattle.expander_session.proofs.LeftOutLemmas.{told_from-append, told_one_by_one}

-- ---- steps are put out one behind the other

pub visible-append : (xs ys : List PlacedStep) → visible (xs ++ ys) ≡ visible xs ++ visible ys
visible-append [] ys = refl
visible-append (s ∷ more) ys = go (is_visible_step s.step) (visible-append more ys)
  where
    go : (b : Bool) → visible (more ++ ys) ≡ visible more ++ visible ys
        → (if b then s ∷ visible (more ++ ys) else visible (more ++ ys)) ≡ (if b then s ∷ visible more else visible more) ++ visible ys
    go true e = ap (λ l. s ∷ l) e
    go false e = e

-- where the words of steps are told, and of those behind them
pub word_places-append : (xs ys : List PlacedStep) → word_places (xs ++ ys) ≡ word_places xs ++ word_places ys
word_places-append xs ys =
    let is_word : PlacedStep → Bool = λ s. is_definition_word s.step in
    ap (λ l. map place (filter is_word l)) (visible-append xs ys)
    ∙ ap (map place) (filter-append is_word (visible xs) (visible ys))
    ∙ map-append place (filter is_word (visible xs)) (filter is_word (visible ys))

pub words_told-append : (xs ys : List PlacedStep) → words_told (xs ++ ys) ≡ words_told xs ++ words_told ys
words_told-append xs ys = ap (map (fault_at NestedDefinition)) (word_places-append xs ys) ∙ map-append (fault_at NestedDefinition) (word_places xs) (word_places ys)

-- no step was put out
pub nothing_told : (more : List PlacedStep) → faults_at (told_from 0 (visible more)) (numbers_left_out more) ≡ unspellable (left_out spelling_before (visible more))
nothing_told more = told_one_by_one 0 (visible more)

-- one step is put out
pub puts_step : (old new : Emitter) (s : PlacedStep)
    → ((steps : List Step) → HasPut old.printer steps → HasPut new.printer (steps ++ s.step ∷ []))
    → ((before : List PlacedStep) → HasPut old.printer (steps_of before)
    → new.told.items ≡ old.told.items ++ told_from (length (visible before)) (visible (s ∷ [])))
    → new.nested.items ≡ old.nested.items ++ words_told (s ∷ [])
    → PutsOut old new (s ∷ [])
puts_step old new s puts told words before has = record {
  printer = subst (HasPut new.printer) (sym (map-append (λ (s : PlacedStep). s.step) before (s ∷ []))) (puts (steps_of before) has.printer);
  told = λ more.
      let one : visible (s ∷ more) ≡ here ++ visible more = visible-append (s ∷ []) more in
      let is : (before ++ s ∷ []) ++ more ≡ before ++ (s ∷ more) = append_assoc before (s ∷ []) more in
      let count : length (visible (before ++ s ∷ [])) ≡ n + length here =
      ap length (visible-append before (s ∷ [])) ∙ length-append (visible before) here in
      ap (λ l. faults_at (l ++ told_from (length (visible (before ++ s ∷ []))) (visible more)) (numbers_left_out ((before ++ s ∷ []) ++ more))) (told before has.printer)
      ∙ ap (λ k. faults_at ((old.told.items ++ told_from n here) ++ told_from k (visible more)) (numbers_left_out ((before ++ s ∷ []) ++ more))) count
      ∙ ap (λ l. faults_at l (numbers_left_out ((before ++ s ∷ []) ++ more)))
      (append_assoc old.told.items (told_from n here) (told_from (n + length here) (visible more))
      ∙ ap (λ l. old.told.items ++ l) (sym (told_from-append n here (visible more)) ∙ ap (told_from n) (sym one)))
      ∙ ap (λ l. faults_at (old.told.items ++ told_from n (visible (s ∷ more))) (numbers_left_out l)) is
      ∙ has.told (s ∷ more)
      ∙ ap (λ l. unspellable (left_out spelling_before (visible l))) (sym is);
  nested = words ∙ ap (λ l. l ++ words_told (s ∷ [])) has.nested ∙ sym (words_told-append before (s ∷ []));
}
  where
    here : List PlacedStep
    here = visible (s ∷ [])

    n : ℕ
    n = length (visible before)

-- a visible step, and an invisible one
pub one_visible : (s : PlacedStep) → is_visible_step s.step ≡ true → visible (s ∷ []) ≡ s ∷ []
one_visible s e = ap (λ (b : Bool). if b then s ∷ [] else []) e

pub none_visible : (s : PlacedStep) → is_visible_step s.step ≡ false → visible (s ∷ []) ≡ []
none_visible s e = ap (λ (b : Bool). if b then s ∷ [] else []) e

pub invisible_words : (s : PlacedStep) → is_visible_step s.step ≡ false → words_told (s ∷ []) ≡ []
invisible_words s e =
    ap (λ (b : Bool). map (fault_at NestedDefinition) (map place (filter (λ s. is_definition_word s.step) (if b then s ∷ [] else [])))) e

-- no step, and some steps behind others
pub puts_none : (out : Emitter) → PutsOut out out []
puts_none out before has = subst (HasOutput out) (sym (append-nil before)) has

pub puts_more : (old mid new : Emitter) (xs ys : List PlacedStep) → PutsOut old mid xs → PutsOut mid new ys → PutsOut old new (xs ++ ys)
puts_more old mid new xs ys first later before has =
    subst (HasOutput new) (append_assoc before xs ys) (later (before ++ xs) (first before has))

-- what was put out, and what is left of the whole
pub record StillPuts (old now : Emitter) (whole left : List PlacedStep) : Type 0 where
  pub done : List PlacedStep
  pub puts : PutsOut old now done
  pub is : done ++ left ≡ whole

pub still_more : (old mid new : Emitter) (whole xs left later : List PlacedStep) → StillPuts old mid whole left → left ≡ xs ++ later → PutsOut mid new xs
    → StillPuts old new whole later
still_more old mid new whole xs left later still is puts = record {
  done = still.done ++ xs;
  puts = puts_more old mid new still.done xs still.puts puts;
  is = append_assoc still.done xs later ∙ ap (λ l. still.done ++ l) (sym is) ∙ still.is;
}

-- ---- places change nothing of what is printed

pub visible_bare : (xs : List PlacedStep) → steps_of (visible xs) ≡ bare_printing.visible (steps_of xs)
visible_bare [] = refl
visible_bare (s ∷ more) = go (is_visible_step s.step) (visible_bare more)
  where
    go : (b : Bool) → steps_of (visible more) ≡ bare_printing.visible (steps_of more)
        → steps_of (if b then s ∷ visible more else visible more)
        ≡ (if b then s.step ∷ bare_printing.visible (steps_of more) else bare_printing.visible (steps_of more))
    go true e = ap (λ l. s.step ∷ l) e
    go false e = e

printed_bare : (xs : List PlacedStep) → map bare (printed spelling_before xs) ≡ bare_printing.printed (steps_of xs)
printed_bare [] = refl
printed_bare (s ∷ more) = go (spelling_before s.step more) (printed_bare more)
  where
    go : (o : Option (List ℕ)) → map bare (printed spelling_before more) ≡ bare_printing.printed (steps_of more)
        → map bare (spelled spelling_before s o ++ printed spelling_before more) ≡ bare_printing.spelled s.step o ++ bare_printing.printed (steps_of more)
    go None e = e
    go (Some text) e = ap (λ l. record { step = s.step; text = text } ∷ l) e

pub tokens_bare : (xs : List PlacedStep) → map bare (tokens_in xs) ≡ bare_printing.printed (bare_printing.visible (steps_of xs))
tokens_bare xs = printed_bare (visible xs) ∙ ap bare_printing.printed (visible_bare xs)

pub text_is : (xs : List PlacedStep) → (print_of (steps_of xs)).text ≡ text_of (tokens_in xs)
text_is xs = ap bare_printing.text_of (sym (tokens_bare xs))

pub origins_are : (xs : List PlacedStep) → map (λ (s : Span). s.range) (print_of (steps_of xs)).tokens ≡ map origin_of (tokens_in xs)
origins_are xs =
    let place : bare_printing.PrintedToken → TextRange = λ a. (bare_printing.step_span a.step).range in
    map-map (λ (s : Span). s.range) (λ (a : bare_printing.PrintedToken). bare_printing.step_span a.step) (bare_printing.printed (bare_printing.visible (steps_of xs)))
    ∙ ap (map place) (sym (tokens_bare xs))
    ∙ map-map place bare (tokens_in xs)

pub texts_are : (xs : List PlacedStep) → map (λ (s : Span). s.anchor) (print_of (steps_of xs)).tokens ≡ map origin_text (tokens_in xs)
texts_are xs =
    let text : bare_printing.PrintedToken → ℕ = λ a. (bare_printing.step_span a.step).anchor in
    map-map (λ (s : Span). s.anchor) (λ (a : bare_printing.PrintedToken). bare_printing.step_span a.step) (bare_printing.printed (bare_printing.visible (steps_of xs)))
    ∙ ap (map text) (sym (tokens_bare xs))
    ∙ map-map text bare (tokens_in xs)

-- ---- the words that begin a definition are always printed

abbrev word_at : Span → List ℕ → Leaf
word_at span name = as_leaf.Ident (record { sym = name; span = span; is_raw = is_raw.No })

long_word : (span : Span) → is_some (leaf_spelling (word_at span (codes "macro_rules"))) ≡ true
unfolding chars is_utf8 encode_utf8 is_xid_start is_xid_continue in_ranges xid_start_ranges xid_continue_ranges
long_word span = refl

short_word : (span : Span) → is_some (leaf_spelling (word_at span (codes "macro"))) ≡ true
unfolding chars is_utf8 encode_utf8 is_xid_start is_xid_continue in_ranges xid_start_ranges xid_continue_ranges
short_word span = refl

spelled_word : (span : Span) (name : List ℕ) → (bytes_eq name (codes "macro_rules") || bytes_eq name (codes "macro")) ≡ true
    → is_some (leaf_spelling (word_at span name)) ≡ true
spelled_word span name e = go (bytes_eq name (codes "macro_rules")) (bytes_eq name (codes "macro")) refl refl e
  where
    go : (a b : Bool) → bytes_eq name (codes "macro_rules") ≡ a → bytes_eq name (codes "macro") ≡ b → (a || b) ≡ true
        → is_some (leaf_spelling (word_at span name)) ≡ true
    go true b first second h =
        subst (λ n. is_some (leaf_spelling (word_at span n)) ≡ true) (sym ((bytes_eq-Decides name (codes "macro_rules")).0 first)) (long_word span)
    go false true first second h =
        subst (λ n. is_some (leaf_spelling (word_at span n)) ≡ true) (sym ((bytes_eq-Decides name (codes "macro")).0 second)) (short_word span)
    go false false first second h = cc

word_spelled : (s : Step) (more : List Step) → is_definition_word s ≡ true → is_some (spelling s more) ≡ true
word_spelled (at_leaf (as_leaf.Ident i)) more e = go i.is_raw e
  where
    go : (raw : IdentIsRaw) → is_definition_word (at_leaf (as_leaf.Ident (record i { is_raw = raw }))) ≡ true
        → is_some (leaf_spelling (as_leaf.Ident (record i { is_raw = raw }))) ≡ true
    go is_raw.No h = spelled_word i.span i.sym h
    go is_raw.Yes h = cc
word_spelled (at_leaf (as_leaf.Punct p)) more e = cc
word_spelled (at_leaf (as_leaf.Literal l)) more e = cc
word_spelled (opens kind span) more e = cc
word_spelled (closes kind span) more e = cc

-- a word that begins a definition has a spelling
word_is_printed : (s : PlacedStep) (more : List PlacedStep) → is_definition_word s.step ≡ true → spelling_before s.step more ≡ None → ⊥
word_is_printed s more is none = let no : false ≡ true = ap is_some (sym none) ∙ word_spelled s.step (steps_of more) is in cc

nested_are : (xs : List PlacedStep)
    → nested (printed spelling_before xs) ≡ map (fault_at NestedDefinition) (map place (filter (λ s. is_definition_word s.step) xs))
nested_are [] = refl
nested_are (s ∷ more) = go (is_definition_word s.step) (spelling_before s.step more) refl refl (nested_are more)
  where
    go : (b : Bool) (o : Option (List ℕ)) → is_definition_word s.step ≡ b → spelling_before s.step more ≡ o
        → nested (printed spelling_before more) ≡ map (fault_at NestedDefinition) (map place (filter (λ s. is_definition_word s.step) more))
        → nested (spelled spelling_before s o ++ printed spelling_before more)
        ≡ map (fault_at NestedDefinition) (map place (filter (λ s. is_definition_word s.step) (s ∷ more)))
    go true None is has rest = absurd (word_is_printed s more is has)
    go false None is has rest = rw is rest
    go true (Some text) is has rest = rw is (ap (λ l. fault_at NestedDefinition (place s) ∷ l) rest)
    go false (Some text) is has rest = rw is rest

-- ---- all faults of the steps that were put out

pub faults_are : (out : Emitter) (all : List PlacedStep) → HasOutput out all
    → out.nested.items ++ faults_at out.told.items (print_of (steps_of all)).left_out ≡ faults_in all
faults_are out all has =
    let none : all ++ [] ≡ all = append-nil all in
    ap (λ l. l ++ faults_at out.told.items (print_of (steps_of all)).left_out) (has.nested ∙ sym (nested_are (visible all)))
    ∙ ap (λ l. nested (tokens_in all) ++ l)
    (ap (λ steps. faults_at out.told.items (left_out_from 0 steps)) (sym (visible_bare all))
    ∙ ap (λ l. faults_at l (numbers_left_out all)) (sym (append-nil out.told.items))
    ∙ ap (λ l. faults_at (out.told.items ++ []) (numbers_left_out l)) (sym none)
    ∙ has.told []
    ∙ ap (λ l. unspellable (left_out spelling_before (visible l))) none)
