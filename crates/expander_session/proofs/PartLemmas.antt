-- What a piece prints as a chunk, and how that is emitted.
use Rattle.std.proofs.Common.{◌≡◌, ℕ, ◌+◌, ◌<◌, ◌≤◌, drop, get_or, append_assoc, append-nil, length, length-append, subst, List, [], ◌∷◌, ◌++◌, refl, sym, ap, ◌∙◌, Bool, true, false, ◌&&◌, nat_eq, arith, if◌then◌else◌}
use Rattle.std.specs.Prelude.{◌||◌, IfOk, None, Option, Some, Result, Ok, Err, filter, map, option_map, unwrap_or}
use Rattle.std.specs.List.{list_all, list_any}
use Rattle.std.proofs.lemmas.Bool.Decides.{nat_tests}
use Rattle.std.proofs.lemmas.List.{at_drop_all, drop_more, length-map, map-append}
use Rattle.tt_data.specs.Walk.{Step, at_leaf, opens, closes, step_with}
use Rattle.tt_data.specs.declared.leaf.Leaf.TheVariants as as_leaf
use Rattle.tt_data.specs.declared.span.Span.{Span}
use Rattle.bridge.specs.RelativeSpans.{is_anchored, moved_to, own_place, shifted}
use Rattle.bridge.specs.declared.printing.relative_spans.Place.{Place}
use Rattle.bridge.specs.declared.printing.relative_spans.Shift.{Shift}
use Rattle.bridge.specs.PrintedChunks.{IsChunkOf, ChunkState}
use Rattle.bridge.specs.Printers.{HasPut}
use Rattle.bridge.specs.Printing as bare_printing
use Rattle.bridge.specs.Printing.{is_visible_step, left_out_from, step_span}
use Rattle.bridge.specs.Spelling.{spelling}
use Rattle.expander_model.specs.Changes.{placed_with}
use Rattle.expander_model.specs.Expansion.{PlacedStep}
use Rattle.expander_model.specs.Faults.{place, fault_at, is_definition_word, unspellable}
use Rattle.expander_session.specs.CachedOutputs.{HasPrinted, HasTaken, EmitsCached, PutsChunk}
use Rattle.expander_scope.specs.Sinks.{TakesMore}
use Rattle.expander_session.specs.Emitting.{PutsOut, faults_at, numbers_left_out, told_from, word_places, words_told}
use Rattle.expander_session.specs.AbsoluteSpans.{base_at, resolved_by}
use Rattle.expander_scope.specs.OffsetTables.{place_at}
use Rattle.expander_model.specs.Printing.{left_out, spelling_before, steps_of, visible}
use Rattle.expander_model.specs.declared.fault.FaultKind.TheVariants.{NestedDefinition}
use Rattle.expander_session.specs.declared.cached_output.OwnPrint.{OwnPrint}
use Rattle.expander_session.specs.declared.cached_output.CachedText.{CachedText}
use Rattle.expander_session.specs.declared.emitter.Emitter.{Emitter}
use Rattle.expander_session.specs.declared.emitter.Told.{Told}
use Rattle.expander_scope.specs.declared.offsets.Offsets.{Offsets}
use Rattle.expander_session.proofs.LeftOutLemmas.{none_elsewhere, not_before, not_behind, skip_behind, told_from-append}
use Rattle.expander_session.proofs.PrintingLemmas.{visible-append, visible_bare, word_places-append, words_told-append}

-- ---- steps that are printed one behind the other

-- what is told of elements, one behind the other
pub mapped_more : {X Y : Type 0} (F : X → Y) (xs : List X) (i : ℕ) (d : X) (old before after : List Y) → i < length xs
    → after ≡ before ++ F (get_or xs i d) ∷ [] → before ++ map F (drop i xs) ≡ old ++ map F xs → after ++ map F (drop (i + 1) xs) ≡ old ++ map F xs
mapped_more F xs i d old before after inside pushed h =
    ap (λ l. l ++ map F (drop (i + 1) xs)) pushed ∙ append_assoc before (F (get_or xs i d) ∷ []) (map F (drop (i + 1) xs))
    ∙ ap (λ l. before ++ map F l) (sym (drop_more xs i d inside)) ∙ h

pub mapped_done : {X Y : Type 0} (F : X → Y) (xs : List X) (i : ℕ) (now whole : List Y) → length xs ≤ i → now ++ map F (drop i xs) ≡ whole → now ≡ whole
mapped_done F xs i now whole past h = sym (append-nil now) ∙ sym (ap (λ l. now ++ l) (at_drop_all (map F) xs i past)) ∙ h

-- no value is both
not_both : (b : Bool) {A : Type 0} → b ≡ false → b ≡ true → A
not_both false p q = cc
not_both true p q = cc

-- one step is printed
pub prints_step : (old new : OwnPrint) (s : PlacedStep) → new.is_empty ≡ false → new.is_whole ≡ old.is_whole
    → ((steps : List Step) → HasPut old.printer steps → HasPut new.printer (steps ++ s.step ∷ []))
    → new.words.items ≡ old.words.items ++ word_places (s ∷ []) → TakesMore HasTaken old new (s ∷ [])
prints_step old new s some same puts words before taken whole = let has : HasPrinted old before = taken (sym same ∙ whole) in record {
  printer = subst (HasPut new.printer) (sym (map-append (λ (s : PlacedStep). s.step) before (s ∷ []))) (puts (steps_of before) has.printer);
  words = words ∙ ap (λ l. l ++ word_places (s ∷ [])) has.words ∙ sym (word_places-append before (s ∷ []));
  none = λ e. not_both new.is_empty some e;
}

-- ---- the same steps at other places

module _ (f : Span → Span) where
  visible_step_with : (s : Step) → is_visible_step (step_with f s) ≡ is_visible_step s
  visible_step_with (at_leaf l) = refl
  visible_step_with (opens kind span) = refl
  visible_step_with (closes kind span) = refl

  word_with : (s : Step) → is_definition_word (step_with f s) ≡ is_definition_word s
  word_with (at_leaf (as_leaf.Literal l)) = refl
  word_with (at_leaf (as_leaf.Punct p)) = refl
  word_with (at_leaf (as_leaf.Ident i)) = refl
  word_with (opens kind span) = refl
  word_with (closes kind span) = refl

  visible_with : (xs : List PlacedStep) → visible (map (placed_with f) xs) ≡ map (placed_with f) (visible xs)
  visible_with [] = refl
  visible_with (s ∷ more) =
      ap (λ (b : Bool). if b then placed_with f s ∷ visible (map (placed_with f) more) else visible (map (placed_with f) more)) (visible_step_with s.step)
      ∙ go (is_visible_step s.step) (visible_with more)
    where
      go : (b : Bool) → visible (map (placed_with f) more) ≡ map (placed_with f) (visible more)
          → (if b then placed_with f s ∷ visible (map (placed_with f) more) else visible (map (placed_with f) more))
          ≡ map (placed_with f) (if b then s ∷ visible more else visible more)
      go true e = ap (λ l. placed_with f s ∷ l) e
      go false e = e

  steps_with : (xs : List PlacedStep) → steps_of (map (placed_with f) xs) ≡ map (step_with f) (steps_of xs)
  steps_with [] = refl
  steps_with (s ∷ more) = ap (λ l. step_with f s.step ∷ l) (steps_with more)

  span_with : (s : Step) → step_span (step_with f s) ≡ f (step_span s)
  span_with (at_leaf (as_leaf.Literal l)) = refl
  span_with (at_leaf (as_leaf.Punct p)) = refl
  span_with (at_leaf (as_leaf.Ident i)) = refl
  span_with (opens kind span) = refl
  span_with (closes kind span) = refl

  place_with : (s : PlacedStep) → place (placed_with f s) ≡ f (place s)
  place_with s = go s.outer
    where
      go : (o : Option Span) → unwrap_or (option_map f o) (step_span (step_with f s.step)) ≡ f (unwrap_or o (step_span s.step))
      go None = span_with s.step
      go (Some span) = refl

  -- the faults of the words among these steps, at other places
  words_with : (xs : List PlacedStep)
      → map place (filter (λ s. is_definition_word s.step) (map (placed_with f) xs)) ≡ map f (map place (filter (λ s. is_definition_word s.step) xs))
  words_with [] = refl
  words_with (s ∷ more) =
      ap (λ (b : Bool). map place (if b then placed_with f s ∷ filter (λ s. is_definition_word s.step) (map (placed_with f) more)
      else filter (λ s. is_definition_word s.step) (map (placed_with f) more))) (word_with s.step)
      ∙ go (is_definition_word s.step) (words_with more)
    where
      go : (b : Bool) → map place (filter (λ s. is_definition_word s.step) (map (placed_with f) more)) ≡ map f (map place (filter (λ s. is_definition_word s.step) more))
          → map place (if b then placed_with f s ∷ filter (λ s. is_definition_word s.step) (map (placed_with f) more)
          else filter (λ s. is_definition_word s.step) (map (placed_with f) more))
          ≡ map f (map place (if b then s ∷ filter (λ s. is_definition_word s.step) more else filter (λ s. is_definition_word s.step) more))
      go true e =
          ap (λ (span : Span). span ∷ map place (filter (λ s. is_definition_word s.step) (map (placed_with f) more))) (place_with s)
          ∙ ap (λ l. f (place s) ∷ l) e
      go false e = e

  words_moved : (xs : List PlacedStep) → words_told (map (placed_with f) xs) ≡ map (fault_at NestedDefinition) (map f (word_places xs))
  words_moved xs =
      ap (λ l. map (fault_at NestedDefinition) (map place (filter (λ s. is_definition_word s.step) l))) (visible_with xs)
      ∙ ap (map (fault_at NestedDefinition)) (words_with (visible xs))

-- the visible tokens of steps, and of those behind them
visible_steps : (xs ys : List PlacedStep) → steps_of (visible (xs ++ ys)) ≡ steps_of (visible xs) ++ steps_of (visible ys)
visible_steps xs ys = ap steps_of (visible-append xs ys) ∙ map-append (λ (s : PlacedStep). s.step) (visible xs) (visible ys)

-- no token of a part is left out, whatever follows
part_is_whole : (part : ChunkState) (steps more : List PlacedStep) → IsChunkOf part (steps_of steps) → length part.tokens ≡ length (steps_of (visible steps))
    → left_out_from (0 + length (steps_of (visible steps))) (steps_of (visible more)) ≡ left_out_from 0 (steps_of (visible steps) ++ steps_of (visible more))
part_is_whole part steps more printed long =
    let from : 0 + length (steps_of (visible steps)) ≡ length part.tokens + 0 = omega (arith, long) in
    ap (λ n. left_out_from n (steps_of (visible more))) from
    ∙ ap (left_out_from (length part.tokens + 0)) (visible_bare more)
    ∙ (printed (steps_of more)).left_out
    ∙ ap (λ l. left_out_from 0 (bare_printing.visible l)) (sym (map-append (λ (s : PlacedStep). s.step) steps more))
    ∙ ap (left_out_from 0) (sym (visible_bare (steps ++ more)) ∙ visible_steps steps more)

module _
    -- a spelling hangs on no place, and a part has the places of all its visible tokens
    (hangs : (h : Span → Span) (s : Step) (more : List Step) → spelling (step_with h s) (map (step_with h) more) ≡ spelling s more)
    (whole : (part : ChunkState) (steps : List Step) → IsChunkOf part steps → part.tokens ≡ map step_span (bare_printing.visible steps)) where
  part_length : (part : ChunkState) (steps : List PlacedStep) → IsChunkOf part (steps_of steps) → length part.tokens ≡ length (steps_of (visible steps))
  part_length part steps printed =
      ap length (whole part (steps_of steps) printed) ∙ length-map (bare_printing.visible (steps_of steps)) step_span ∙ ap length (sym (visible_bare steps))

  -- a part is put out
  module _ (old new : Emitter) (part : ChunkState) (steps : List PlacedStep) (f : Span → Span) (is_part : IsChunkOf part (steps_of steps)) where
    moved : List PlacedStep
    moved = map (placed_with f) steps

    -- its tokens elsewhere
    tokens_moved : steps_of (visible moved) ≡ map (step_with f) (steps_of (visible steps))
    unfolding moved
    tokens_moved = ap steps_of (visible_with f steps) ∙ steps_with f (visible steps)

    as_many : length (visible moved) ≡ length (steps_of (visible steps))
    as_many =
        sym (length-map (visible moved) (λ (s : PlacedStep). s.step)) ∙ ap length tokens_moved ∙ length-map (steps_of (visible steps)) (step_with f)

    -- no number of its tokens is told
    none_told : (before more : List PlacedStep) (k : ℕ) → length (visible before) ≤ k → k < length (visible before) + length (visible moved)
        → list_any (nat_eq k) (numbers_left_out (before ++ (moved ++ more))) ≡ false
    none_told before more k low high =
        let bs = steps_of (visible before) in
        let xs = steps_of (visible steps) in
        let ys = steps_of (visible more) in
        let is : steps_of (visible (before ++ (moved ++ more))) ≡ bs ++ (map (step_with f) xs ++ ys) =
        visible_steps before (moved ++ more) ∙ ap (λ l. bs ++ l) (visible_steps moved more ∙ ap (λ l. l ++ ys) tokens_moved) in
        let many : length bs ≡ length (visible before) = length-map (visible before) (λ (s : PlacedStep). s.step) in
        let none : list_any (nat_eq k) (left_out_from (0 + length bs) (map (step_with f) xs ++ ys)) ≡ false =
        ap (list_any (nat_eq k)) (none_elsewhere hangs f 0 (0 + length bs) xs ys (part_is_whole part steps more is_part (part_length part steps is_part)))
        ∙ not_behind k (0 + length bs + length xs) ys (omega (arith, high, many, as_many)) in
        ap (λ l. list_any (nat_eq k) (left_out_from 0 l)) is ∙ not_before bs (map (step_with f) xs ++ ys) 0 k (omega (arith, low, many)) none

    pub puts_part : (words : List Span) → words ≡ map f (word_places steps) → ((before : List Step) → HasPut old.printer before → HasPut new.printer (before ++ map (step_with f) (steps_of steps)))
        → new.told.items ≡ old.told.items
        → new.nested.items ≡ old.nested.items ++ map (fault_at NestedDefinition) words → PutsOut old new (map (placed_with f) steps)
    unfolding moved
    puts_part words words_are puts told nested before has =
        let n = length (visible before) in
        let longer : length (visible (before ++ moved)) ≡ n + length (visible moved) =
        ap length (visible-append before moved) ∙ length-append (visible before) (visible moved) in
        record {
          printer = subst (HasPut new.printer)
              (ap (λ l. steps_of before ++ l) (sym (steps_with f steps)) ∙ sym (map-append (λ (s : PlacedStep). s.step) before moved))
              (puts (steps_of before) has.printer);
          told = λ more.
              let is : (before ++ moved) ++ more ≡ before ++ (moved ++ more) = append_assoc before moved more in
              let numbers = numbers_left_out (before ++ (moved ++ more)) in
              let behind : List Told = told_from (n + length (visible moved)) (visible more) in
              ap (λ l. faults_at (l ++ told_from (length (visible (before ++ moved))) (visible more)) (numbers_left_out ((before ++ moved) ++ more))) told
              ∙ ap (λ k. faults_at (old.told.items ++ told_from k (visible more)) (numbers_left_out ((before ++ moved) ++ more))) longer
              ∙ ap (λ l. faults_at (old.told.items ++ behind) (numbers_left_out l)) is
              ∙ sym (skip_behind old.told.items n (visible moved) behind numbers
              (λ k low high. none_told before more k low high))
              ∙ ap (λ l. faults_at (old.told.items ++ l) numbers)
              (sym (told_from-append n (visible moved) (visible more)) ∙ ap (told_from n) (sym (visible-append moved more)))
              ∙ has.told (moved ++ more)
              ∙ ap (λ l. unspellable (left_out spelling_before (visible l))) (sym is);
          nested = nested ∙ ap (λ l. l ++ map (fault_at NestedDefinition) words) has.nested
              ∙ ap (λ l. words_told before ++ map (fault_at NestedDefinition) l) words_are
              ∙ ap (λ l. words_told before ++ l) (sym (words_moved f steps))
              ∙ sym (words_told-append before moved);
        }

-- a part that is put out at the places of a piece in the text
pub held_puts : {E : Type 0} → (start : ℕ) (starts : Offsets) (old new : Emitter) (p : CachedText) (spans words : List Span) (result : Result Bool E)
    → spans ≡ map (resolved_by start starts) p.printed.tokens → words ≡ map (resolved_by start starts) p.words.items
    → IfOk result (PutsChunk old new p.printed spans words) → IfOk result (EmitsCached old new p start starts)
held_puts start starts old new p spans words (Ok true) is are puts =
    λ steps right. puts steps (resolved_by start starts) right.printed is (are ∙ ap (map (resolved_by start starts)) right.words)
held_puts start starts old new p spans words (Ok false) is are puts = puts
held_puts start starts old new p spans words (Err e) is are puts = puts

-- ---- places that are not computed yet

-- at the start of the piece, and where its only other anchor counts from
abbrev pub shift_at : ℕ → Offsets → ℕ → Shift
shift_at start starts a = record { own = own_place start; other = base_at start starts a }

shifted_is : (start : ℕ) (starts : Offsets) (a : ℕ) (s : Span) → is_anchored a s ≡ true → shifted (shift_at start starts a) s ≡ resolved_by start starts s
shifted_is start starts a s h =
    ap (λ (p : Place). moved_to p s) (go (nat_eq s.anchor 0) refl h)
  where
    own : Place
    own = own_place start

    go : (t : Bool) → nat_eq s.anchor 0 ≡ t → (t || nat_eq s.anchor a) ≡ true
        → (if t then own else (if nat_eq a 0 then own else place_at starts a)) ≡ (if t then own else place_at starts s.anchor)
    go true is h = refl
    go false is h =
        let same : s.anchor ≡ a = grind (arith, nat_tests) in
        ap (λ (n : ℕ). if nat_eq n 0 then own else place_at starts n) (sym same)
        ∙ ap (λ (t : Bool). if t then own else place_at starts s.anchor) is

pub all_shifted : (start : ℕ) (starts : Offsets) (a : ℕ) (spans : List Span) → list_all (is_anchored a) spans ≡ true
    → map (shifted (shift_at start starts a)) spans ≡ map (resolved_by start starts) spans
all_shifted start starts a [] all = refl
all_shifted start starts a (s ∷ more) all =
    go (is_anchored a s) refl all (all_shifted start starts a more)
  where
    go : (b : Bool) → is_anchored a s ≡ b → (b && list_all (is_anchored a) more) ≡ true
        → (list_all (is_anchored a) more ≡ true → map (shifted (shift_at start starts a)) more ≡ map (resolved_by start starts) more)
        → map (shifted (shift_at start starts a)) (s ∷ more) ≡ map (resolved_by start starts) (s ∷ more)
    go true is h later = ap (λ x. x ∷ map (shifted (shift_at start starts a)) more) (shifted_is start starts a s is) ∙ ap (λ l. resolved_by start starts s ∷ l) (later h)
    go false is h later = absurd (cc)
