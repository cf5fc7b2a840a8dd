-- The events that one token adds to a tree under construction.
use Rattle.std.proofs.Common.{◌≡◌, ℕ, ◌+◌, List, [], ◌∷◌, ◌++◌, Bool, inl, inr, refl, sym, ap, ◌∙◌, arith, map}
use Rattle.std.proofs.lemmas.List.{map-append}
use Rattle.std.specs.Prelude.{Option, Some, None}
use Rattle.rustc_lexer.specs.declared.token.DocStyle.{DocStyle}
use Rattle.rustc_lexer.specs.declared.token.TokenKind.{TokenKind}
use Rattle.rustc_lexer.specs.declared.token.DocStyle.TheVariants.{Outer, Inner}
use Rattle.tt.specs.Building.{Building, Opened, closed, count_of, extended, innermost_group, opened}
use Rattle.tt_data.specs.Flat.{joined-empty}
use Rattle.tt_data.specs.declared.leaf.IdentIsRaw.{IdentIsRaw}
use Rattle.tt_data.specs.declared.leaf.LitKind.{LitKind}
use Rattle.tt_data.specs.Forest.{Forest, empty, size}
use Rattle.tt_data.specs.Walk.{closes, opens, walk}
use Rattle.tt_data.specs.declared.delimiter.DelimiterKind.{DelimiterKind}
use Rattle.tt_data.specs.fault.TtFault.{TtFault}
use Rattle.tt_data.specs.declared.span.Span.{Span}
use Rattle.tt_data.specs.declared.span.TextRange.{TextRange}
use Rattle.tt.proofs.Limits.{count-extended}
use Rattle.bridge.proofs.ReadingLemmas.{closed_walk, walk_open-joined}
use Rattle.bridge.specs.ReadSteps.{IsClosed, IsRefusal, IsStepRefusal, Takes, first_kind, spacing_at, steps_in, trees_of}
use Rattle.bridge.specs.Reading.{DoesNotFit, IsFault, PlacedToken, TextStep, bad, bad_at, closer_at, left_open, range_of, step, walk_open, written_at}
use Rattle.bridge.specs.TokenSteps.{spacing_before, steps_of_class}
use Rattle.bridge.specs.declared.reading.outcome.ReadFault.{ReadFault}
use Rattle.bridge.specs.declared.reading.outcome.ReadFaultKind.TheVariants.{BadToken, CloserDoesNotFit, GroupLeftOpen}
use Rattle.bridge.specs.declared.reading.classify.TokenClass.{TokenClass}
use Rattle.bridge.specs.declared.reading.classify.TokenClass.TheVariants.{Blank, Name, Mark, Opening, Closing, QuotedName, Doc, Value, Neither}

-- ---- trees

steps_in-extended : (b : Building) (f : Forest) → steps_in (extended b f) ≡ steps_in b ++ map step (walk f)
steps_in-extended b f = ap (map step) (walk_open-joined b.groups b.here f) ∙ map-append step (walk_open b.groups b.here) (walk f)

pub takes_trees : (old new : Building) (f : Forest) (steps : List TextStep) → steps ≡ map step (walk f) → new ≡ extended old f → Takes steps old new None
takes_trees old new f steps is e = (ap steps_in e ∙ steps_in-extended old f ∙ ap (λ s. steps_in old ++ s) (sym is), ap (λ (b : Building). b.top) e)

pub refuses_trees : (old : Building) (e : TtFault) (f : Forest) (steps : List TextStep) → steps ≡ map step (walk f) → IsRefusal (count_of old + size f) e
    → IsStepRefusal steps old e
refuses_trees old e f steps is (inl memory) = inl memory
refuses_trees old e f steps is (inr (tokens, many)) =
    inr (
      tokens,
      record {
        full = extended old f;
        adds = steps_in-extended old f ∙ ap (λ s. steps_in old ++ s) (sym is);
        many = omega (arith, many, count-extended old f);
      },
    )

spacing_before-is : (after : List PlacedToken) → spacing_before after ≡ spacing_at (first_kind after)
spacing_before-is [] = refl
spacing_before-is (t ∷ more) = refl

-- a token that is no bracket is read as its trees
plain_steps : (class : TokenClass) (t : PlacedToken) (after : List PlacedToken) → ((k : DelimiterKind) → class ≡ Opening k → ⊥)
    → ((k : DelimiterKind) → class ≡ Closing k → ⊥) → (class ≡ Neither → ⊥)
    → steps_of_class class t after ≡ map step (walk (trees_of class t.text (range_of t) (first_kind after)))
plain_steps Blank t after a b n = refl
plain_steps (Name raw) t after a b n = refl
plain_steps (Mark c) t after a b n = rw (spacing_before-is after) refl
plain_steps QuotedName t after a b n = refl
plain_steps (Doc Outer is_block) t after a b n = refl
plain_steps (Doc Inner is_block) t after a b n = refl
plain_steps (Value f at) t after a b n = refl
plain_steps (Opening k) t after a b n = absurd (a k refl)
plain_steps (Closing k) t after a b n = absurd (b k refl)
plain_steps Neither t after a b n = absurd (n refl)

pub plain_at : (class : TokenClass) (t : PlacedToken) (after : List PlacedToken) (text : List ℕ) (range : TextRange) (next : Option TokenKind)
    → t.text ≡ text → range_of t ≡ range → first_kind after ≡ next → ((k : DelimiterKind) → class ≡ Opening k → ⊥)
    → ((k : DelimiterKind) → class ≡ Closing k → ⊥) → (class ≡ Neither → ⊥)
    → steps_of_class class t after ≡ map step (walk (trees_of class text range next))
plain_at class t after text range next same at follows a b n =
    plain_steps class t after a b n
    ∙ ap (λ x. map step (walk (trees_of class x (range_of t) (first_kind after)))) same
    ∙ ap (λ r. map step (walk (trees_of class text r (first_kind after)))) at
    ∙ ap (λ k. map step (walk (trees_of class text range k))) follows

-- ---- brackets

pub takes_opening : (old new : Building) (kind : DelimiterKind) (span : Span) → new ≡ opened old kind span
    → Takes (step (opens kind span) ∷ []) old new None
takes_opening old new kind span e =
    (ap steps_in e ∙ map-append step (walk_open old.groups old.here) (opens kind span ∷ []), ap (λ (b : Building). b.top) e)

pub refuses_opening : (old : Building) (e : TtFault) (kind : DelimiterKind) (span : Span) → IsRefusal (count_of old + 1) e
    → IsStepRefusal (step (opens kind span) ∷ []) old e
refuses_opening old e kind span (inl memory) = inl memory
refuses_opening old e kind span (inr (tokens, many)) =
    inr (
      tokens,
      record {
        full = opened old kind span;
        adds = map-append step (walk_open old.groups old.here) (opens kind span ∷ []);
        many = omega (arith, many);
      },
    )

-- what is told of the innermost open group
abbrev kind_told : DelimiterKind → Option (DelimiterKind × Span) → DelimiterKind
kind_told other None = other
kind_told other (Some p) = p.0

abbrev span_told : Span → Option (DelimiterKind × Span) → Span
span_told other None = other
span_told other (Some p) = p.1

closes_in : (groups : List Opened) (old : Building) (kind : DelimiterKind) (open_at span : Span) → old.groups ≡ groups
    → innermost_group groups ≡ Some (kind, open_at) → Takes (step (closes kind span) ∷ []) old (closed old span) None
closes_in [] old kind open_at span is found = cc
closes_in (o ∷ outer) old kind open_at span is found =
    let same : o.kind ≡ kind = ap (kind_told kind) found in (
      rw is (ap (map step) (closed_walk o outer old.here kind span same) ∙ map-append step (walk_open (o ∷ outer) old.here) (closes kind span ∷ [])),
      rw is refl,
    )

pub takes_closing : (old new : Building) (kind : DelimiterKind) (range : TextRange) → IsClosed kind range old new
    → Takes (step (closes kind (written_at range)) ∷ []) old new None
takes_closing old new kind range (open_at, found, e) =
    let takes = closes_in old.groups old kind open_at (written_at range) refl found in
    (ap steps_in e ∙ takes.0, ap (λ (b : Building). b.top) e ∙ takes.1)

-- a closing bracket of another kind, or where no group is open
pub faults_closing : (old new : Building) (kind : DelimiterKind) (span : Span) → DoesNotFit kind old.groups
    → Takes (step (closes kind span) ∷ []) old new (Some (record { kind = CloserDoesNotFit; range = span.range }))
faults_closing old new kind span other = λ more. closer_at old.groups old.here kind span more refl other

pub faults_bad : (old new : Building) (range : TextRange) (fault : ReadFault) → fault ≡ record { kind = BadToken; range = range }
    → Takes (bad range ∷ []) old new (Some fault)
faults_bad old new range fault is = λ more. rw is (bad_at old.groups old.here range more refl)

-- nothing is put in for what is no leaf and no attribute
pub no_trees : (class : TokenClass) (text : List ℕ) (range : TextRange) (next : Option TokenKind) → ((raw : IdentIsRaw) → class ≡ Name raw → ⊥)
    → ((c : ℕ) → class ≡ Mark c → ⊥) → (class ≡ QuotedName → ⊥) → ((style : DocStyle) (is_block : Bool) → class ≡ Doc style is_block → ⊥)
    → ((f : LitKind) (at : ℕ) → class ≡ Value f at → ⊥) → trees_of class text range next ≡ empty
no_trees Blank text range next n m q d v = refl
no_trees (Opening kind) text range next n m q d v = refl
no_trees (Closing kind) text range next n m q d v = refl
no_trees Neither text range next n m q d v = refl
no_trees (Name raw) text range next n m q d v = absurd (n raw refl)
no_trees (Mark c) text range next n m q d v = absurd (m c refl)
no_trees QuotedName text range next n m q d v = absurd (q refl)
no_trees (Doc style is_block) text range next n m q d v = absurd (d style is_block refl)
no_trees (Value f at) text range next n m q d v = absurd (v f at refl)

pub adds_nothing : (b : Building) (f : Forest) → f ≡ empty → b ≡ extended b f
adds_nothing b f is = rw is (ap (λ h. record b { here = h }) (sym (joined-empty b.here)))

-- ---- the end of the text

left_in : (groups : List Opened) (here : Forest) (kind : DelimiterKind) (span : Span) → innermost_group groups ≡ Some (kind, span)
    → IsFault (map step (walk_open groups here)) (record { kind = GroupLeftOpen; range = span.range })
left_in [] here kind span found = cc
left_in (o ∷ outer) here kind span found =
    let at : o.open_span ≡ span = ap (span_told span) found in
    rw (← at) (left_open o outer here refl)

pub left : (b : Building) (kind : DelimiterKind) (span : Span) → innermost_group b.groups ≡ Some (kind, span)
    → IsFault (steps_in b) (record { kind = GroupLeftOpen; range = span.range })
left b = left_in b.groups b.here
