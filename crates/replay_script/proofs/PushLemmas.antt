-- Definitions that are put into a prelude one after another.
use Rattle.std.proofs.Common.{◌≡◌, ℕ, ◌+◌, ◌<◌, ◌≤◌, List, [], ◌∷◌, ◌++◌, Option, None, Some, refl, ap, sym, subst, ◌∙◌, append_assoc, append-nil, drop, get_or, length, length-append, nat_lt, true, false, Bool, arith}
use Rattle.std.specs.Prelude.{flat_map, if◌then◌else◌, option_and_then, option_map}
use Rattle.std.proofs.lemmas.List.{drop_more}
use Rattle.tt_data.specs.Forest.{Forest}
use Rattle.expander_sources.specs.Picks.{picked}
use Rattle.expander_sources.specs.Sources.{Source, item_at}
use Rattle.expander_scope.specs.Refusals.{refusal_of}
use Rattle.expander_scope.specs.declared.refusal.Refusal.{Refusal}
use Rattle.tt_data.specs.fault.TtFault.{TtFault}
use Rattle.tt_data.specs.fault.TtFault.TheVariants as fault
use Rattle.crate_picks.specs.SourcePicks.{behind_own}
use Rattle.replay_script.specs.Picks.{Picked, SourceTable, all_picked, count_of, named_by, picked_by, picked_of, picks_at, prelude_of}
use Rattle.replay_script.specs.Progress.{IsPreludeAnswer}
use Rattle.replay_script.specs.Scripts.{indices_of}
use Rattle.replay_script.specs.declared.answer.LineAnswer.TheVariants as told
use Rattle.replay_script.specs.declared.line.Pick.{Pick}

-- ---- definitions by index

-- after some indices: what the others pick, behind what is there, is what all pick
pub record Pushes (s : Source) (all rest : List ℕ) (old now : List Forest) : Type 0 where
  pub more : (ps : List Forest) → picks_at s rest ≡ Some ps → (qs : List Forest) × (picks_at s all ≡ Some qs) × (now ++ ps ≡ old ++ qs)
  pub none : picks_at s rest ≡ None → picks_at s all ≡ None

pub pushes_none : (s : Source) (all : List ℕ) (old : List Forest) → Pushes s all all old old
pushes_none s all old = record { more = λ ps e. (ps, e, refl); none = λ e. e }

-- what an index and more pick
abbrev with_index : Source → ℕ → Bool → Option (List Forest) → Option (List Forest)
with_index s i is more = if is then option_map (λ ps. picked s.home (item_at s.items i).piece ∷ ps) more else None

-- the next index is there
pub pushes_one : (s : Source) (all rest : List ℕ) (i : ℕ) (old now next : List Forest) → Pushes s all (i ∷ rest) old now → nat_lt i (length s.items) ≡ true
    → next ≡ now ++ picked s.home (item_at s.items i).piece ∷ [] → Pushes s all rest old next
pushes_one s all rest i old now next p is added =
    let first = picked s.home (item_at s.items i).piece in
    let step : picks_at s (i ∷ rest) ≡ with_index s i true (picks_at s rest) = ap (λ (b : Bool). with_index s i b (picks_at s rest)) is in
    record {
      more = λ ps e.
          let found = p.more (first ∷ ps) (step ∙ ap (with_index s i true) e) in
          (found.0, found.1, ap (λ (ns : List Forest). ns ++ ps) added ∙ append_assoc now (first ∷ []) ps ∙ found.2);
      none = λ e. p.none (step ∙ ap (with_index s i true) e);
    }

-- it is not there
pub pushes_bad : (s : Source) (all rest : List ℕ) (i : ℕ) (old now : List Forest) → Pushes s all (i ∷ rest) old now → nat_lt i (length s.items) ≡ false
    → picks_at s all ≡ None
pushes_bad s all rest i old now p is = p.none (ap (λ (b : Bool). with_index s i b (picks_at s rest)) is)

-- all are there
pub pushes_all : (s : Source) (all rest : List ℕ) (old now : List Forest) → rest ≡ [] → Pushes s all rest old now
    → (ps : List Forest) × (picks_at s all ≡ Some ps) × (now ≡ old ++ ps)
pushes_all s all rest old now none p =
    let found = p.more [] (ap (picks_at s) none) in
    (found.0, found.1, sym (append-nil now) ∙ found.2)

-- what a word picks of its source
pub pick_made : (sources : SourceTable) (pick : Pick) (s : Source) (ps : List Forest) → sources pick.source ≡ Some s → named_by s (indices_of pick) ≡ Some ps
    → picked_by sources pick ≡ Some (record { named = ps; rooted = behind_own s })
pick_made sources pick s ps is named =
    ap (option_and_then (picked_of (indices_of pick))) is ∙ ap (option_map (λ (ps : List Forest). record { named = ps; rooted = behind_own s })) named

-- a refused prelude
pub refused_prelude : (sources : SourceTable) (picks : List Pick) (f : TtFault) (r : Refusal) → r ≡ refusal_of f → IsPreludeAnswer sources picks (told.Refused r)
refused_prelude sources picks f r is = subst (λ (r : Refusal). IsPreludeAnswer sources picks (told.Refused r)) (sym is) (of f)
  where
    of : (f : TtFault) → IsPreludeAnswer sources picks (told.Refused (refusal_of f))
    of fault.Memory = tt
    of fault.Tokens = tt
    of fault.Malformed = tt
    of fault.Place = tt
    of fault.Stale = tt

-- the item at a number, before those behind it
pub drop_at : {X : Type 0} (xs : List X) (i : ℕ) (x : X) → i < length xs → x ≡ get_or xs i x → drop i xs ≡ x ∷ drop (i + 1) xs
drop_at xs i x inside is = drop_more xs i x inside ∙ ap (λ y. y ∷ drop (i + 1) xs) (sym is)

-- ---- words

-- what words pick behind a first one
abbrev with_first : Option Picked → Option (List Picked) → Option (List Picked)
with_first first more = option_and_then (λ p. option_map (λ ps. p ∷ ps) more) first

-- after some words: what the others pick, behind what is there, is what all pick
pub record Picking (sources : SourceTable) (all rest : List Pick) (now : List Forest) (named : ℕ) : Type 0 where
  pub more : (ps : List Picked) → all_picked sources rest ≡ Some ps
      → (qs : List Picked) × (all_picked sources all ≡ Some qs) × (now ++ prelude_of ps ≡ prelude_of qs) × (named + count_of ps ≡ count_of qs)
  pub none : all_picked sources rest ≡ None → all_picked sources all ≡ None
  pub few : named ≤ length now

pub picking_none : (sources : SourceTable) (all : List Pick) (now : List Forest) → now ≡ [] → Picking sources all all now 0
picking_none sources all now e = record {
  more = λ ps is. (ps, is, ap (λ (ns : List Forest). ns ++ prelude_of ps) e, omega arith);
  none = λ is. is;
  few = omega arith;
}

-- the next word picks something
pub picking_one : (sources : SourceTable) (all rest : List Pick) (pick : Pick) (p : Picked) (now next : List Forest) (named count : ℕ)
    → Picking sources all (pick ∷ rest) now named → picked_by sources pick ≡ Some p → next ≡ now ++ (p.named ++ p.rooted) → count ≡ named + length p.named
    → Picking sources all rest next count
picking_one sources all rest pick p now next named count so_far is added counted =
    let step : all_picked sources (pick ∷ rest) ≡ with_first (Some p) (all_picked sources rest) = ap (λ (o : Option Picked). with_first o (all_picked sources rest)) is in
    record {
      more = λ ps e.
          let found = so_far.more (p ∷ ps) (step ∙ ap (with_first (Some p)) e) in (
            found.0,
            found.1,
            ap (λ (ns : List Forest). ns ++ prelude_of ps) added ∙ append_assoc now (p.named ++ p.rooted) (prelude_of ps) ∙ found.2,
            omega (arith, found.3, counted, length-append p.named (flat_map (λ (q : Picked). q.named) ps)),
          );
      none = λ e. so_far.none (step ∙ ap (with_first (Some p)) e);
      few = omega (arith, so_far.few, counted, ap length added, length-append now (p.named ++ p.rooted), length-append p.named p.rooted);
    }

-- it picks nothing
pub picking_bad : (sources : SourceTable) (all rest : List Pick) (pick : Pick) (now : List Forest) (named : ℕ)
    → Picking sources all (pick ∷ rest) now named → picked_by sources pick ≡ None → all_picked sources all ≡ None
picking_bad sources all rest pick now named so_far is = so_far.none (ap (λ (o : Option Picked). with_first o (all_picked sources rest)) is)

-- all words picked
pub picking_all : (sources : SourceTable) (all rest : List Pick) (now : List Forest) (named : ℕ) → rest ≡ [] → Picking sources all rest now named
    → (ps : List Picked) × (all_picked sources all ≡ Some ps) × (now ≡ prelude_of ps) × (named ≡ count_of ps)
picking_all sources all rest now named none so_far =
    let found = so_far.more [] (ap (all_picked sources) none) in
    (found.0, found.1, sym (append-nil now) ∙ found.2, omega (arith, found.3))
