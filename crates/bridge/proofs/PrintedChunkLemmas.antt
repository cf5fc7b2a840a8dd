-- A chunk appended to printed text: its events print the same text whatever their spans, and none
-- is omitted.
use Rattle.std.proofs.Common.{◌≡◌, ℕ, ◌+◌, ◌≤◌, Bool, true, false, not, ◌&&◌, List, [], ◌∷◌, ◌++◌, length, map, refl, sym, ap, ◌∙◌, subst, arith, append_assoc, nat_eq, ◌||◌, if◌then◌else◌}
use Rattle.std.specs.Prelude.{Option, Some, None, codes, is_some}
use Rattle.std.proofs.lemmas.Bool.Decides.{nat_tests}
use Rattle.std.proofs.lemmas.List.{append-nil, length-append, length-map}
use Rattle.tt_data.specs.Spans.{no_span}
use Rattle.tt_data.specs.Walk.{Step, at_leaf, opens, closes, step_with}
use Rattle.tt_data.specs.declared.leaf.Leaf.TheVariants as as_leaf
use Rattle.tt_data.specs.declared.span.Span.{Span}
use Rattle.bridge.specs.declared.printing.spacing.Edge.{Edge}
use Rattle.bridge.specs.declared.printing.spacing.Edge.TheVariants.{Mark, ClosingBrace, Other}
use Rattle.bridge.specs.Edges.{edge_of, gap_between, gap_outside, has_one_gap, is_comment}
use Rattle.bridge.specs.ChunkSteps.{AppendsChunk, one_gap, chunk_behind}
use Rattle.bridge.specs.PrintedChunks.{IsChunkOf, ChunkState, PutsChunk, has_last_gap, takes_chunks}
use Rattle.bridge.specs.Printers.{Continues, PrinterState, Prints, continued, pending}
use Rattle.bridge.specs.Printing.{Print, PrintedToken, depth_after, gap, is_visible_step, left_out_from, print_of, printed, spans_of, spelled, step_span, text_from, unspelled, visible}
use Rattle.bridge.specs.Spelling.{spelling}
use Rattle.bridge.specs.Text.{char}
use Rattle.bridge.proofs.SpanLemmas.{printed_text_moved, spelling_moved, visible_moved}

-- ---- steps at other places

visible-append : (xs ys : List Step) → visible (xs ++ ys) ≡ visible xs ++ visible ys
visible-append [] ys = refl
visible-append (s ∷ more) ys = go (is_visible_step s) (visible-append more ys)
  where
    go : (b : Bool) → visible (more ++ ys) ≡ visible more ++ visible ys
        → (if b then s ∷ visible (more ++ ys) else visible (more ++ ys)) ≡ (if b then s ∷ visible more else visible more) ++ visible ys
    go true e = ap (λ l. s ∷ l) e
    go false e = e

abbrev nowhere : Span → Span
nowhere span = no_span

step_nowhere : (f : Span → Span) (s : Step) → step_with nowhere (step_with f s) ≡ step_with nowhere s
step_nowhere f (at_leaf (as_leaf.Ident i)) = refl
step_nowhere f (at_leaf (as_leaf.Punct i)) = refl
step_nowhere f (at_leaf (as_leaf.Literal i)) = refl
step_nowhere f (opens kind span) = refl
step_nowhere f (closes kind span) = refl

steps_nowhere : (f : Span → Span) (xs ys : List Step) → map (step_with nowhere) (map (step_with f) xs ++ ys) ≡ map (step_with nowhere) (xs ++ ys)
steps_nowhere f [] ys = refl
steps_nowhere f (x ∷ xs) ys =
    ap (λ s. s ∷ map (step_with nowhere) (map (step_with f) xs ++ ys)) (step_nowhere f x)
    ∙ ap (λ l. step_with nowhere x ∷ l) (steps_nowhere f xs ys)

-- the text of some steps and of those that follow, the first ones elsewhere
same_text : (f : Span → Span) (xs ys : List Step) → text_from 0 (printed (map (step_with f) xs ++ ys)) ≡ text_from 0 (printed (xs ++ ys))
same_text f xs ys =
    sym (printed_text_moved nowhere (map (step_with f) xs ++ ys))
    ∙ ap (λ l. text_from 0 (printed l)) (steps_nowhere f xs ys)
    ∙ printed_text_moved nowhere (xs ++ ys)

same_spelling : (f : Span → Span) (s : Step) (xs ys : List Step) → spelling (step_with f s) (map (step_with f) xs ++ ys) ≡ spelling s (xs ++ ys)
same_spelling f s xs ys =
    sym (spelling_moved nowhere (step_with f s) (map (step_with f) xs ++ ys))
    ∙ ap (λ t. spelling t (map (step_with nowhere) (map (step_with f) xs ++ ys))) (step_nowhere f s)
    ∙ ap (spelling (step_with nowhere s)) (steps_nowhere f xs ys)
    ∙ spelling_moved nowhere s (xs ++ ys)

span_moved : (f : Span → Span) (s : Step) → step_span (step_with f s) ≡ f (step_span s)
span_moved f (at_leaf (as_leaf.Ident i)) = refl
span_moved f (at_leaf (as_leaf.Punct i)) = refl
span_moved f (at_leaf (as_leaf.Literal i)) = refl
span_moved f (opens kind span) = refl
span_moved f (closes kind span) = refl

spans_moved : (f : Span → Span) (xs : List Step) → map step_span (map (step_with f) xs) ≡ map f (map step_span xs)
spans_moved f [] = refl
spans_moved f (x ∷ xs) = ap (λ s. s ∷ map step_span (map (step_with f) xs)) (span_moved f x) ∙ ap (λ l. f (step_span x) ∷ l) (spans_moved f xs)

-- ---- steps of which none is left out

-- a place that is left out does not stand before the first of them
left_behind : (m : ℕ) (ys : List Step) (n : ℕ) (rest : List ℕ) → left_out_from m ys ≡ n ∷ rest → m ≤ n
left_behind m [] n rest e = absurd (cc)
left_behind m (y ∷ ys) n rest e = by_test (spelling y ys) e (left_behind (m + 1) ys n rest)
  where
    by_test : (o : Option (List ℕ)) → (unspelled m o ++ left_out_from (m + 1) ys) ≡ n ∷ rest → (left_out_from (m + 1) ys ≡ n ∷ rest → m + 1 ≤ n) → m ≤ n
    by_test None h later = let same : m ≡ n = cc in omega (arith, same)
    by_test (Some text) h later = omega (arith, later h)

-- where none of some steps is left out, the first is spelled, and none of the others is left out
first_told : (n : ℕ) (x : Step) (xs ys : List Step) → left_out_from (n + length (x ∷ xs)) ys ≡ left_out_from n (x ∷ (xs ++ ys))
    → (text : List ℕ) × ((spelling x (xs ++ ys) ≡ Some text) × (left_out_from (n + 1 + length xs) ys ≡ left_out_from (n + 1) (xs ++ ys)))
first_told n x xs ys e = by_test (spelling x (xs ++ ys)) refl e
  where
    by_test : (o : Option (List ℕ)) → spelling x (xs ++ ys) ≡ o → left_out_from (n + length (x ∷ xs)) ys ≡ unspelled n o ++ left_out_from (n + 1) (xs ++ ys)
        → (text : List ℕ) × ((spelling x (xs ++ ys) ≡ Some text) × (left_out_from (n + 1 + length xs) ys ≡ left_out_from (n + 1) (xs ++ ys)))
    by_test None h told =
        let late = left_behind (n + length (x ∷ xs)) ys n (left_out_from (n + 1) (xs ++ ys)) told in
        absurd (omega (arith, late))
    by_test (Some text) h told =
        let place : n + 1 + length xs ≡ n + length (x ∷ xs) = omega arith in
        (text, (h, ap (λ m. left_out_from m ys) place ∙ told))

-- the places of such steps
told_spans : (n : ℕ) (xs ys : List Step) → left_out_from (n + length xs) ys ≡ left_out_from n (xs ++ ys)
    → spans_of (printed (xs ++ ys)) ≡ map step_span xs ++ spans_of (printed ys)
told_spans n [] ys e = refl
told_spans n (x ∷ xs) ys e =
    let first = first_told n x xs ys e in
    ap (λ o. spans_of (spelled x o ++ printed (xs ++ ys))) first.1.0
    ∙ ap (λ l. step_span x ∷ l) (told_spans (n + 1) xs ys first.1.1)

-- the same steps at other places, behind more steps
told_moved : (n m : ℕ) (f : Span → Span) (xs ys : List Step) → left_out_from (n + length xs) ys ≡ left_out_from n (xs ++ ys)
    → left_out_from m (map (step_with f) xs ++ ys) ≡ left_out_from (m + length xs) ys
told_moved n m f [] ys e = let none : m ≡ m + 0 = omega arith in ap (λ k. left_out_from k ys) none
told_moved n m f (x ∷ xs) ys e =
    let first = first_told n x xs ys e in
    let place : m + 1 + length xs ≡ m + length (x ∷ xs) = omega arith in
    ap (λ o. unspelled m o ++ left_out_from (m + 1) (map (step_with f) xs ++ ys)) (same_spelling f x xs ys ∙ first.1.0)
    ∙ told_moved (n + 1) (m + 1) f xs ys first.1.1
    ∙ ap (λ k. left_out_from k ys) place

-- ---- what stands behind what was printed

some_text : (depth : ℕ) (a : PrintedToken) (more : List PrintedToken) → 1 ≤ length (text_from depth (a ∷ more))
some_text depth a [] = omega (arith, length-append a.text (codes "\n"))
some_text depth a (b ∷ more) =
    let now = depth_after depth a.step in
    omega (arith, length-append a.text (gap now a b ++ text_from now (b ∷ more)), length-append (gap now a b) (text_from now (b ∷ more)), some_text now b more)

some_more : (last : Edge) (tokens : List PrintedToken) → 1 ≤ length (continued 0 (Some last) tokens)
some_more last [] = omega arith
some_more last (b ∷ more) =
    omega (arith, length-append (gap_between 0 last (edge_of b.step)) (text_from 0 (b ∷ more)), some_text 0 b more)

-- behind a mark that ends a line, or is neither joined nor a quote
mark_gap : (c : ℕ) (joined : Bool) (next : Edge) → has_one_gap (Mark c joined) ≡ true → gap_between 0 (Mark c joined) next ≡ gap_outside (Mark c joined)
mark_gap c joined next one = by_next next
  where
    joins : (semi quote joined marks : Bool) → (semi || (not quote && not joined)) ≡ true
        → (if semi then codes "\n" else if quote || (joined && marks) then [] else codes " ") ≡ (if semi then codes "\n" else codes " ")
    joins true quote joined marks h = refl
    joins false true joined marks h = absurd (cc)
    joins false false true marks h = absurd (cc)
    joins false false false marks h = refl

    alone : (semi quote joined : Bool) → (semi || (not quote && not joined)) ≡ true
        → (if semi then codes "\n" else if quote then [] else codes " ") ≡ (if semi then codes "\n" else codes " ")
    alone true quote joined h = refl
    alone false true joined h = absurd (cc)
    alone false false joined h = refl

    by_next : (next : Edge) → gap_between 0 (Mark c joined) next ≡ gap_outside (Mark c joined)
    by_next (Mark d other) = joins (nat_eq c (char ";")) (nat_eq c (char "'")) joined (not (nat_eq d (char "'")) && not (is_comment c d)) one
    by_next ClosingBrace = alone (nat_eq c (char ";")) (nat_eq c (char "'")) joined one
    by_next Other = alone (nat_eq c (char ";")) (nat_eq c (char "'")) joined one

gap_whatever_follows : (last next : Edge) → has_one_gap last ≡ true → gap_between 0 last next ≡ gap_outside last
gap_whatever_follows (Mark c joined) next one = mark_gap c joined next one
gap_whatever_follows ClosingBrace next one = refl
gap_whatever_follows Other next one = refl

behind_the_gap : (last : Option Edge) (tokens : List PrintedToken) → has_last_gap last ≡ true → 1 ≤ length (text_from 0 tokens)
    → continued 0 last tokens ≡ one_gap last ++ text_from 0 tokens
behind_the_gap None tokens one some = refl
behind_the_gap (Some last) [] one some = absurd (omega (arith, some))
behind_the_gap (Some last) (b ∷ more) one some = ap (λ g. g ++ text_from 0 (b ∷ more)) (gap_whatever_follows last (edge_of b.step) one)

-- ---- a chunk

-- what a chunk is before the steps that follow
record Before (p : ChunkState) (xs ys : List Step) : Type 0 where
  text : p.text ++ continued 0 (Some p.last) (printed ys) ≡ text_from 0 (printed (xs ++ ys))
  tokens : p.tokens ≡ map step_span xs
  told : left_out_from (0 + length xs) ys ≡ left_out_from 0 (xs ++ ys)

pub whole_part : (p : ChunkState) (steps : List Step) → IsChunkOf p steps → p.tokens ≡ map step_span (visible steps)
whole_part p steps has =
    let all = has [] in
    let xs = visible steps in
    let same : visible (steps ++ []) ≡ xs ++ [] = visible-append steps [] in
    let told : left_out_from (0 + length xs) [] ≡ left_out_from 0 (xs ++ []) = all.left_out ∙ ap (left_out_from 0) same in
    sym (append-nil p.tokens) ∙ all.tokens ∙ ap (λ l. spans_of (printed l)) same ∙ told_spans 0 xs [] told ∙ append-nil (map step_span xs)

part_before : (p : ChunkState) (steps more : List Step) → IsChunkOf p steps → Before p (visible steps) (visible more)
part_before p steps more has =
    let all = has more in
    let xs = visible steps in
    let ys = visible more in
    let same : visible (steps ++ more) ≡ xs ++ ys = visible-append steps more in
    let tokens = whole_part p steps has in
    let long : 0 + length xs ≡ length p.tokens + 0 = omega (arith, ap length tokens, length-map xs step_span) in
    record {
      text = all.text ∙ ap (λ l. text_from 0 (printed l)) same;
      tokens = tokens;
      told = ap (λ k. left_out_from k ys) long ∙ all.left_out ∙ ap (left_out_from 0) same;
    }

-- the chunk's text stands behind the gap
part_text : (s : PrinterState) (p : ChunkState) (f : Span → Span) (xs ys : List Step) → has_last_gap s.last ≡ true → Before p xs ys
    → ((s.text ++ one_gap s.last) ++ p.text) ++ continued 0 (Some p.last) (printed ys) ≡ s.text ++ continued 0 s.last (printed (map (step_with f) xs ++ ys))
part_text s p f xs ys one chunk =
    let between = one_gap s.last in
    let rest = continued 0 (Some p.last) (printed ys) in
    let moved = printed (map (step_with f) xs ++ ys) in
    let own : p.text ++ rest ≡ text_from 0 moved = chunk.text ∙ sym (same_text f xs ys) in
    let some : 1 ≤ length (text_from 0 moved) = omega (arith, ap length own, length-append p.text rest, some_more p.last (printed ys)) in
    append_assoc (s.text ++ between) p.text rest
    ∙ append_assoc s.text between (p.text ++ rest)
    ∙ ap (λ t. s.text ++ (between ++ t)) own
    ∙ ap (λ t. s.text ++ t) (sym (behind_the_gap s.last moved one some))

part_prints : (s : PrinterState) (p : ChunkState) (places : List Span) (f : Span → Span) (xs ys : List Step) (all : Print) → s.depth ≡ 0
    → has_last_gap s.last ≡ true → places ≡ map f p.tokens → Before p xs ys → Prints s (map (step_with f) xs ++ ys) all
    → Prints (chunk_behind s p places) ys all
part_prints s p places f xs ys all depth one at chunk has =
    let zs = map (step_with f) xs in
    let n = length s.tokens + length s.left_out in
    let moved : places ≡ map step_span zs = at ∙ ap (map f) chunk.tokens ∙ sym (spans_moved f xs) in
    let told : left_out_from n (zs ++ ys) ≡ left_out_from (n + length xs) ys = told_moved 0 n f xs ys chunk.told in
    let same : n + length zs ≡ n + length xs = omega (arith, length-map xs (step_with f)) in
    let spans = told_spans n zs ys (ap (λ k. left_out_from k ys) same ∙ sym told) in
    let long : length (s.tokens ++ places) + length s.left_out ≡ n + length xs =
    omega (arith, length-append s.tokens places, ap length moved, length-map zs step_span, length-map xs (step_with f)) in
    record {
      text = ap (λ d. ((s.text ++ one_gap s.last) ++ p.text) ++ continued d (Some p.last) (printed ys)) depth
          ∙ part_text s p f xs ys one chunk
          ∙ ap (λ d. s.text ++ continued d s.last (printed (zs ++ ys))) (sym depth) ∙ has.text;
      tokens = append_assoc s.tokens places (spans_of (printed ys))
          ∙ ap (λ l. s.tokens ++ (l ++ spans_of (printed ys))) moved ∙ ap (λ l. s.tokens ++ l) (sym spans) ∙ has.tokens;
      left_out = ap (λ k. s.left_out ++ left_out_from k ys) long ∙ ap (λ l. s.left_out ++ l) (sym told) ∙ has.left_out;
    }

-- ---- a chunk that is put

abbrev no_wait : Option Span → Bool
no_wait waiting = not (is_some waiting)

none : (waiting : Option Span) → no_wait waiting ≡ true → waiting ≡ None
none None h = refl
none (Some span) h = absurd (cc)

all_three : {X : Type 0} (a b c : Bool) → (a && (b && c)) ≡ true → (a ≡ true → b ≡ true → c ≡ true → X) → X
all_three true true true h f = f refl refl refl
all_three true true false h f = absurd (cc)
all_three true false c h f = absurd (cc)
all_three false b c h f = absurd (cc)

pub part_put : (s : PrinterState) (p : ChunkState) (places : List Span) → takes_chunks s ≡ true → PutsChunk s (chunk_behind s p places) p places true
part_put s p places takes = λ before steps f chunk at has more.
    let moved = map (step_with f) steps in
    let xs = visible steps in
    let ys = visible more in
    let all = print_of (before ++ (moved ++ more)) in
    let same : visible (moved ++ more) ≡ map (step_with f) xs ++ ys = visible-append moved more ∙ ap (λ l. l ++ ys) (visible_moved f steps) in
    all_three (nat_eq s.depth 0) (no_wait s.waiting) (has_last_gap s.last) takes
    (λ depth waits one.
    let shallow : s.depth ≡ 0 = grind (arith, nat_tests) in
    let alone : s.waiting ≡ None = none s.waiting waits in
    let now : Prints s (map (step_with f) xs ++ ys) all =
    subst (λ l. Prints s l all) same (subst (λ w. Prints s (pending w ++ visible (moved ++ more)) all) alone (has (moved ++ more))) in
    let later : Prints (chunk_behind s p places) ys all = part_prints s p places f xs ys all shallow one at (part_before p steps more chunk) now in
    subst (λ l. Continues (chunk_behind s p places) ys (print_of l)) (sym (append_assoc before moved more))
    (subst (λ w. Prints (chunk_behind s p places) (pending w ++ ys) all) (sym alone) later))

-- the same where it may be that nothing was done
pub part_put_or_not : (s new : PrinterState) (p : ChunkState) (places : List Span) (done : Bool) → takes_chunks s ≡ true → AppendsChunk s new p places done
    → PutsChunk s new p places done
part_put_or_not s new p places true takes is = subst (λ n. PutsChunk s n p places true) (sym is) (part_put s p places takes)
part_put_or_not s new p places false takes is = is
