-- One more visible token is printed, or omitted.
use Rattle.std.proofs.Common.{◌≡◌, ℕ, ◌+◌, true, false, ◌&&◌, List, [], ◌∷◌, ◌++◌, length, refl, sym, ap, ◌∙◌, subst, arith, append_assoc, if◌then◌else◌, IsUtf8, take}
use Rattle.std.specs.Prelude.{Option, Some, None, Result, Ok, Err, OnOk, codes}
use Rattle.std.specs.Str.{IsCharBoundary}
use Rattle.std.proofs.Math.Seq.{take-append_seam}
use Rattle.std.proofs.lemmas.List.{append-nil, length-append}
use Rattle.std.proofs.lemmas.Str.{IsCharBoundary-from_take}
use Rattle.std.proofs.lemmas.Bool.Decides.{nat_tests}
use Rattle.tt_data.specs.Walk.{Step, at_leaf}
use Rattle.tt_data.specs.declared.delimiter.DelimiterKind.{DelimiterKind}
use Rattle.tt_data.specs.declared.delimiter.DelimiterKind.TheVariants.{Parenthesis, Brace, Bracket, Invisible}
use Rattle.tt_data.specs.declared.leaf.Leaf.TheVariants as as_leaf
use Rattle.tt_data.specs.declared.leaf.Punct.{Punct}
use Rattle.tt_data.specs.declared.leaf.Spacing.{Spacing}
use Rattle.tt_data.specs.declared.leaf.Spacing.TheVariants.{Alone, Joint, JointHidden}
use Rattle.tt_data.specs.declared.span.Span.{Span}
use Rattle.bridge.specs.declared.printing.spacing.Edge.{Edge}
use Rattle.bridge.specs.Edges.{edge_of, gap_between}
use Rattle.bridge.specs.PrintStates.{Grows, IsLonger, gap_behind, printed_so_far}
use Rattle.bridge.specs.Printers.{Continues, PrinterState, Prints, continued, pending, quote_at}
use Rattle.bridge.specs.Printing.{Print, PrintedToken, depth_after, is_visible_step, left_out_from, printed, spans_of, spelled, step_span, text_from, unspelled, visible}
use Rattle.bridge.specs.Spelling.{begins_with_name, close_text, leaf_spelling, open_text, quote_spelling, spelling}
use Rattle.tt.specs.Glued.{is_joint}
use Rattle.bridge.specs.Text.{char, is_char, is_visible}
use Rattle.bridge.proofs.EdgeLemmas.{IsSpelled, gap_same}

pub carried : {A E : Type 0} (r : Result A E) (P Q : Type 0) → (P → Q) → OnOk r P → OnOk r Q
carried (Ok a) P Q f h = f h
carried (Err e) P Q f h = h

-- ---- the first printed token of some steps is spelled

first_by : (s : Step) (more : List Step) (b : PrintedToken) (rest : List PrintedToken) (o : Option (List ℕ)) → spelling s more ≡ o
    → (spelled s o ++ printed more) ≡ b ∷ rest → (printed more ≡ b ∷ rest → IsSpelled b.step b.text) → IsSpelled b.step b.text
first_by s more b rest None h e again = again e
first_by s more b rest (Some text) h e again =
    let same : record { step = s; text = text } ≡ b = cc in subst (λ (x : PrintedToken). IsSpelled x.step x.text) same (more, h)

first_spelled : (more : List Step) (b : PrintedToken) (rest : List PrintedToken) → printed more ≡ b ∷ rest → IsSpelled b.step b.text
first_spelled [] b rest e = absurd (cc)
first_spelled (s ∷ more) b rest e = first_by s more b rest (spelling s more) refl e (first_spelled more b rest)

first_text_of : (depth : ℕ) (s : Step) (text : List ℕ) (more : List Step) (tokens : List PrintedToken) → printed more ≡ tokens → IsSpelled s text
    → text_from depth (record { step = s; text = text } ∷ tokens) ≡ text ++ continued (depth_after depth s) (Some (edge_of s)) tokens
first_text_of depth s text more [] e p = refl
first_text_of depth s text more (b ∷ rest) e p =
    ap (λ g. text ++ (g ++ text_from (depth_after depth s) (b ∷ rest))) (gap_same (depth_after depth s) s b.step text b.text p (first_spelled more b rest e))

first_text : (depth : ℕ) (s : Step) (text : List ℕ) (more : List Step) → IsSpelled s text
    → text_from depth (record { step = s; text = text } ∷ printed more) ≡ text ++ continued (depth_after depth s) (Some (edge_of s)) (printed more)
first_text depth s text more p = first_text_of depth s text more (printed more) refl p

more_text : (before all : List ℕ) (depth : ℕ) (last : Option Edge) (s : Step) (text : List ℕ) (more : List Step) → IsSpelled s text
    → before ++ continued depth last (record { step = s; text = text } ∷ printed more) ≡ all
    → ((before ++ gap_behind depth last (edge_of s)) ++ text) ++ continued (depth_after depth s) (Some (edge_of s)) (printed more) ≡ all
more_text before all depth None s text more p e =
    rw (append-nil, append_assoc) (ap (λ t. before ++ t) (sym (first_text depth s text more p)) ∙ e)
more_text before all depth (Some last) s text more p e =
    let between = gap_between depth last (edge_of s) in
    let rest = continued (depth_after depth s) (Some (edge_of s)) (printed more) in
    append_assoc (before ++ between) text rest ∙ append_assoc before between (text ++ rest)
    ∙ (ap (λ t. before ++ (between ++ t)) (sym (first_text depth s text more p)) ∙ e)

-- ---- a token is printed, or left out

pub printed_more : (s t : PrinterState) (step : Step) (text : List ℕ) (more : List Step) (all : Print) → spelling step more ≡ Some text
    → Prints s (step ∷ more) all
    → t.text ≡ (s.text ++ gap_behind s.depth s.last (edge_of step)) ++ text
    → t.tokens ≡ s.tokens ++ (step_span step ∷ []) → t.left_out ≡ s.left_out → t.depth ≡ depth_after s.depth step
    → t.last ≡ Some (edge_of step) → Prints t more all
printed_more s t step text more all has p texts tokens left depth last =
    let a : PrintedToken = record { step = step; text = text } in
    let first : printed (step ∷ more) ≡ a ∷ printed more = ap (λ o. spelled step o ++ printed more) has in
    let n = length s.tokens + length s.left_out in
    let none : left_out_from n (step ∷ more) ≡ left_out_from (n + 1) more = ap (λ o. unspelled n o ++ left_out_from (n + 1) more) has in
    let long : length t.tokens + length t.left_out ≡ n + 1 = rw (tokens, left) (omega (arith, length-append s.tokens (step_span step ∷ []))) in
    record {
      text = rw (texts, depth, last)
          (more_text s.text all.text s.depth s.last step text more (more, has)
          (ap (λ l. s.text ++ continued s.depth s.last l) (sym first) ∙ p.text));
      tokens = ap (λ l. l ++ spans_of (printed more)) tokens ∙ append_assoc s.tokens (step_span step ∷ []) (spans_of (printed more))
          ∙ (ap (λ l. s.tokens ++ spans_of l) (sym first) ∙ p.tokens);
      left_out = rw (long, left) (ap (λ l. s.left_out ++ l) (sym none) ∙ p.left_out);
    }

pub left_more : (s t : PrinterState) (step : Step) (more : List Step) (all : Print) → spelling step more ≡ None
    → Prints s (step ∷ more) all → t.text ≡ s.text → t.tokens ≡ s.tokens
    → t.left_out ≡ s.left_out ++ ((length s.tokens + length s.left_out) ∷ []) → t.depth ≡ s.depth → t.last ≡ s.last → Prints t more all
left_more s t step more all has p texts tokens left depth last =
    let first : printed (step ∷ more) ≡ printed more = ap (λ o. spelled step o ++ printed more) has in
    let n = length s.tokens + length s.left_out in
    let one : left_out_from n (step ∷ more) ≡ n ∷ left_out_from (n + 1) more = ap (λ o. unspelled n o ++ left_out_from (n + 1) more) has in
    let long : length t.tokens + length t.left_out ≡ n + 1 = rw (tokens, left) (omega (arith, length-append s.left_out (n ∷ []))) in
    record {
      text = rw (texts, depth, last) (ap (λ l. s.text ++ continued s.depth s.last l) (sym first) ∙ p.text);
      tokens = rw tokens (ap (λ l. s.tokens ++ spans_of l) (sym first) ∙ p.tokens);
      left_out = rw (long, left) (append_assoc s.left_out (n ∷ []) (left_out_from (n + 1) more) ∙ (ap (λ l. s.left_out ++ l) (sym one) ∙ p.left_out));
    }

-- ---- a quote that waits

-- what is printed of steps does not hang on the quote that waits
pub whatever_waits : (s : PrinterState) (waiting : Option Span) (rest : List Step) (all : Print) → Prints s rest all → Prints (record s { waiting = waiting }) rest all
whatever_waits s waiting rest all p = record { text = p.text; tokens = p.tokens; left_out = p.left_out }

pub quote_printed : (span : Span) (more : List Step) → begins_with_name more ≡ true → spelling (quote_at span) more ≡ Some (codes "'")
quote_printed span more h = ap quote_spelling h

pub quote_left : (span : Span) (more : List Step) → begins_with_name more ≡ false → spelling (quote_at span) more ≡ None
quote_left span more h = ap quote_spelling h

pub it_waits : (s : PrinterState) (span : Span) (more : List Step) (all : Print) → s.waiting ≡ Some span → Continues s more all → Prints s (quote_at span ∷ more) all
it_waits s span more all e p = subst (λ w. Prints s (pending w ++ more) all) e p

pub none_waits : (s : PrinterState) (more : List Step) (all : Print) → s.waiting ≡ None → Prints s more all → Continues s more all
none_waits s more all e p = subst (λ w. Prints s (pending w ++ more) all) (sym e) p

joint : (s : Spacing) → is_joint s ≡ true → s ≡ Joint
joint Joint h = refl
joint Alone h = absurd (cc)
joint JointHidden h = absurd (cc)

pub quote_is : (p : Punct) → is_char "'" p ≡ true → is_joint p.spacing ≡ true → at_leaf (as_leaf.Punct p) ≡ quote_at p.span
quote_is p e f =
    let c : p.char ≡ char "'" = grind (arith, nat_tests) in
    ap (λ x. at_leaf (as_leaf.Punct (record { char = x; spacing = p.spacing; span = p.span }))) c
    ∙ ap (λ x. at_leaf (as_leaf.Punct (record { char = char "'"; spacing = x; span = p.span }))) (joint p.spacing f)

pub quote_apart : (p : Punct) (more : List Step) → is_char "'" p ≡ true → is_joint p.spacing ≡ false → spelling (at_leaf (as_leaf.Punct p)) more ≡ None
quote_apart p more e f =
    ap (λ u. if u then quote_spelling (is_joint p.spacing && begins_with_name more) else leaf_spelling (as_leaf.Punct p)) e
    ∙ ap (λ j. quote_spelling (j && begins_with_name more)) f

-- ---- visible and invisible steps

pub as_visible : (s : PrinterState) (step : Step) (more : List Step) (all : Print) → is_visible_step step ≡ true
    → Continues s (visible (step ∷ more)) all → Continues s (step ∷ visible more) all
as_visible s step more all e p = subst (λ u. Continues s (if u then step ∷ visible more else visible more) all) e p

pub opening_visible : (kind : DelimiterKind) (text : List ℕ) → open_text kind ≡ Some text → is_visible kind ≡ true
opening_visible Parenthesis text h = refl
opening_visible Brace text h = refl
opening_visible Bracket text h = refl
opening_visible Invisible text h = absurd (cc)

pub closing_visible : (kind : DelimiterKind) (text : List ℕ) → close_text kind ≡ Some text → is_visible kind ≡ true
closing_visible Parenthesis text h = refl
closing_visible Brace text h = refl
closing_visible Bracket text h = refl
closing_visible Invisible text h = absurd (cc)

-- ---- the end

pub ended : (s : PrinterState) (text : List ℕ) (all : Print) → Prints s [] all → text ≡ s.text ++ continued s.depth s.last []
    → printed_so_far (record s { text = text }) ≡ all
ended s text all p e =
    let texts : text ≡ all.text = e ∙ p.text in
    let tokens : s.tokens ≡ all.tokens = sym (append-nil s.tokens) ∙ p.tokens in
    let left : s.left_out ≡ all.left_out = sym (append-nil s.left_out) ∙ p.left_out in
    rw (texts, tokens, left) refl

-- ---- what was put before

longer_twice : {A : Type 0} (a b c : List A) → IsLonger a b → IsLonger b c → IsLonger a c
longer_twice a b c p q = (p.0 ++ q.0, q.1 ∙ (ap (λ l. l ++ q.0) p.1 ∙ append_assoc a p.0 q.0))

pub grows_twice : (a b c : PrinterState) → Grows a b → Grows b c → Grows a c
grows_twice a b c p q = record {
  text = longer_twice a.text b.text c.text p.text q.text;
  tokens = longer_twice a.tokens b.tokens c.tokens p.tokens q.tokens;
  left_out = longer_twice a.left_out b.left_out c.left_out p.left_out q.left_out;
}

pub cut : (old new : List ℕ) → IsUtf8 old → IsUtf8 new → IsLonger old new → IsCharBoundary new (length old)
cut old new u v longer =
    let front : take (length old) new ≡ old = ap (take (length old)) longer.1 ∙ take-append_seam old longer.0 in
    IsCharBoundary-from_take new (length old) v (omega (arith, ap length longer.1, length-append old longer.0)) (subst IsUtf8 (sym front) u)
