-- The forest of a tree under construction, and how it is cut back.
use Rattle.std.proofs.Common.{◌≡◌, ◌+◌, ◌-◌, ◌<◌, ◌≤◌, length, List, [], ◌∷◌, ap, subst, sym, refl, ◌∙◌, arith, Some}
use Rattle.std.proofs.lemmas.Bool.{eq-eqb, ne_eqb, le-leb}
use Rattle.tt_data.specs.declared.span.Span.{Span}
use Rattle.tt_data.specs.Forest.{Forest, empty, leaf, group, joined, size, front}
use Rattle.tt_data.specs.Flat.{joined-empty, front-joined}
use Rattle.tt_data.proofs.ForestLemmas.{joined_assoc}
use Rattle.tt.specs.Building.{Building, Opened, Reached, itself, by_push, by_open, by_close, closed_in, count_in, count_of, point_of, list_in, cut_back}

-- more trees in the list that was the innermost, and all groups open in it still open; or that in a list around
data Above (b : Building) : List Opened → Forest → Type 0 where
  level : (more : Forest) → Above b b.groups (joined b.here more)
  deeper : (o : Opened) (outer : List Opened) (here : Forest) → Above b outer o.before → Above b (o ∷ outer) here

added : (b : Building) (groups : List Opened) (here f : Forest) → Above b groups here → Above b groups (joined here f)
added b _ _ f (level more) =
    let P : Forest → Type 0 = λ h. Above b b.groups h in
    subst P (sym (joined_assoc b.here more f)) (level (joined more f))
added b _ _ f (deeper o outer here above) = deeper o outer (joined here f) above

closed_above : (b t : Building) (groups : List Opened) (here : Forest) (span : Span) → length b.groups < length groups → Above b groups here
    → Above b (closed_in groups t span).groups (closed_in groups t span).here
closed_above b t _ _ span more (level trees) = absurd (omega (arith, more))
closed_above b t _ _ span more (deeper o outer here above) =
    added b outer o.before (group (record { open_span = o.open_span; close_span = span; kind = o.kind }) t.here empty) above

above : (b t : Building) → Reached b t → Above b t.groups t.here
above b _ itself =
    let P : Forest → Type 0 = λ h. Above b b.groups h in
    subst P (joined-empty b.here) (level empty)
above b _ (by_push t l reached) = added b t.groups t.here (leaf l empty) (above b t reached)
above b _ (by_open t kind span reached) =
    deeper (record { kind = kind; open_span = span; before = t.here }) t.groups empty (above b t reached)
above b _ (by_close t span more reached) = closed_above b t t.groups t.here span more (above b t reached)

all_open : (groups : List Opened) (here : Forest) → list_in (length groups) groups here ≡ Some (groups, here)
all_open [] here = refl
all_open (o ∷ outer) here = rw (eq-eqb (length (o ∷ outer)) (1 + length outer) (omega arith)) refl

still_open : (b : Building) (groups : List Opened) (here : Forest) → Above b groups here → length b.groups ≤ length groups
still_open b _ _ (level more) = omega arith
still_open b _ _ (deeper o outer here above) = omega (arith, still_open b outer o.before above)

list_above : (b : Building) (groups : List Opened) (here : Forest) → Above b groups here
    → (more : Forest) × (list_in (length b.groups) groups here ≡ Some (b.groups, joined b.here more))
list_above b _ _ (level more) = (more, all_open b.groups (joined b.here more))
list_above b _ _ (deeper o outer here above) =
    let list = list_above b outer o.before above in
    let open_there : length b.groups ≤ length outer = still_open b outer o.before above in
    (list.0, rw (ne_eqb (length b.groups) (1 + length outer) (λ e. omega (arith, e, open_there))) list.1)

same_top_closed : (groups : List Opened) (t : Building) (span : Span) → (closed_in groups t span).top ≡ t.top
same_top_closed [] t span = refl
same_top_closed (o ∷ outer) t span = refl

same_top : (b t : Building) → Reached b t → t.top ≡ b.top
same_top b _ itself = refl
same_top b _ (by_push t l reached) = same_top b t reached
same_top b _ (by_open t kind span reached) = same_top b t reached
same_top b _ (by_close t span more reached) = same_top_closed t.groups t span ∙ same_top b t reached

pub stands : (b t : Building) → Reached b t → cut_back (point_of b) t ≡ Some b
stands b t reached =
    let list = list_above b t.groups t.here (above b t reached) in
    let more : Forest = list.0 in
    let offset : count_of b - count_in b.groups ≡ size b.here = omega arith in
    let first : front (count_of b - count_in b.groups) (joined b.here more) ≡ b.here =
    ap (λ n. front n (joined b.here more)) offset ∙ front-joined b.here more in
    let counts : size (front (count_of b - count_in b.groups) (joined b.here more)) ≡ count_of b - count_in b.groups =
    ap size first ∙ sym offset in
    let below : count_in b.groups ≤ count_of b = omega arith in
    rw (
      list.1,
      le-leb (count_in b.groups) (count_of b) below,
      eq-eqb (size (front (count_of b - count_in b.groups) (joined b.here more))) (count_of b - count_in b.groups) counts,
      first,
      same_top b t reached,
    )
    refl
