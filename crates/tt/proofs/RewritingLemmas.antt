-- A rewriting walk, step by step: what remains, and what it has made so far.
use Rattle.std.proofs.Common.{◌≡◌, ℕ, ◌+◌, ◌≤◌, List, [], ◌∷◌, ◌++◌, length, ap, refl, sym, subst, ◌∙◌, arith, append_assoc, append-nil, Some, None}
use Rattle.std.specs.List.{All}
use Rattle.std.specs.Prelude.{Bool, true, false, if◌then◌else◌, is_none, Option, Result, Ok, Err, IfOk, IfErr}
use Rattle.std.specs.Result.{IsErrAnd}
use Rattle.tt_data.specs.fault.TtFault.{TtFault}
use Rattle.std.proofs.lemmas.List.Elements.{All-nil, All-cons, All-append}
use Rattle.tt_data.specs.declared.delimiter.Delimiter.{Delimiter}
use Rattle.tt_data.specs.declared.leaf.Leaf.{Leaf}
use Rattle.tt_data.specs.declared.span.Span.{Span}
use Rattle.tt_data.specs.declared.tree.Subtree.{Subtree}
use Rattle.tt_data.specs.declared.tree.TokenTree.TheVariants as token
use Rattle.tt_data.specs.Forest.{Forest, empty, leaf, group, joined, size, head_of}
use Rattle.tt_data.specs.Flat.{joined-empty}
use Rattle.tt_data.proofs.ForestLemmas.{joined_assoc, size-joined}
use Rattle.std.specs.Borrow.{Bor}
use Rattle.std.specs.Fn.{CalledAt, Mut}
use Rattle.tt_data.specs.declared.tree.TokenTree.{TokenTree}
use Rattle.tt.specs.Views.{forest}
use Rattle.tt.specs.declared.top_subtree.transform.TransformTtAction.{TransformTtAction}
use Rattle.tt.specs.declared.top_subtree.transform.TransformTtAction.TheVariants.{Keep, ReplaceWith}
use Rattle.tt.specs.declared.view.TokenTreesView.{TokenTreesView}
use Rattle.tt.specs.Building.{Building, Opened, closed, closed_in, count_in, count_of}
use Rattle.tt.specs.Tops.{Top, forest_of_top, only_group}
use Rattle.tt.specs.Walking.{Around, Standing, LeavesGroup, entered}
use Rattle.tt.specs.Rewriting.{Call, IsAnswered, IsRewritten, IsStarted, IsRemoval, with_answer, nothing, leaf_stays, leaf_gives_way, group_stays, group_gives_way}

abbrev pub kept_leaf : Leaf → Call
kept_leaf l = record { token = token.Leaf l; put = None }

abbrev pub put_leaf : Leaf → Forest → Call
put_leaf l put = record { token = token.Leaf l; put = Some put }

abbrev pub kept_group : Delimiter → Forest → Call
kept_group d inner = record { token = head_of d (size inner); put = None }

abbrev pub put_group : Delimiter → Forest → Forest → Call
put_group d inner put = record { token = head_of d (size inner); put = Some put }

-- the delimiter of a group that is open
abbrev pub closed_by : Around → Opened → Delimiter
closed_by a o = record { open_span = o.open_span; close_span = a.close_span; kind = o.kind }

-- with these trees in the innermost group, the trees after each group around are made by these calls, and this comes of all
abbrev IsDone : List Around → List Opened → Forest → List Call → Forest → Type 0
IsDone [] [] all calls g = (calls ≡ []) × (g ≡ all)
IsDone (a ∷ outer) (o ∷ groups) all calls g =
    (f : Forest) × (mine : List Call) × (others : List Call) × IsRewritten a.rest mine f × (calls ≡ mine ++ others)
    × IsDone outer groups (joined (joined o.before (group (closed_by a o) all empty)) f) others g
IsDone around groups all calls g = ⊥

-- the same, with the trees left in the innermost group made first, after those that are there
abbrev pub IsLeft : Forest → List Around → List Opened → Forest → List Call → Forest → Type 0
IsLeft left around groups here calls g =
    (f : Forest) × (mine : List Call) × (others : List Call) × IsRewritten left mine f × (calls ≡ mine ++ others)
    × IsDone around groups (joined here f) others g

-- so far these calls were made: what is left of the walk makes the whole of it
abbrev pub IsUnderWay : Forest → List Call → Forest → List Around → List Opened → Forest → Type 0
IsUnderWay trees calls left around groups here =
    (more : List Call) (g : Forest) → IsLeft left around groups here more g → IsRewritten trees (calls ++ more) g

-- at the beginning all is left
pub begun : (trees : Forest) → IsUnderWay trees [] trees [] [] empty
begun trees more g (f, mine, others, made, all, (none, is)) =
    let same : more ≡ mine = all ∙ ap (λ o. mine ++ o) none ∙ append-nil mine in
    let P : List Call → Type 0 = λ m. IsRewritten trees m g in
    subst P (sym same) (subst (λ h. IsRewritten trees mine h) (sym is) made)

module _ (trees : Forest) (calls : List Call) (around : List Around) (groups : List Opened) (here : Forest) where
  -- one call more
  after_call : (c : Call) (left next : Forest) (around' : List Around) (groups' : List Opened) (here' : Forest) → IsUnderWay trees calls left around groups here
      → ((more : List Call) (g : Forest) → IsLeft next around' groups' here' more g → IsLeft left around groups here (c ∷ more) g)
      → IsUnderWay trees (calls ++ c ∷ []) next around' groups' here'
  after_call c left next around' groups' here' way step more g rest =
      let P : List Call → Type 0 = λ m. IsRewritten trees m g in
      subst P (sym (append_assoc calls (c ∷ []) more)) (way (c ∷ more) g (step more g rest))

  -- the tree is there
  done_with : (f h all : Forest) (others : List Call) (g : Forest) → joined (joined here f) h ≡ all → IsDone around groups (joined (joined here f) h) others g
      → IsDone around groups all others g
  done_with f h all others g e k = subst (λ x. IsDone around groups x others g) e k

  pub leaf_kept : (l : Leaf) (rest : Forest) → IsUnderWay trees calls (leaf l rest) around groups here
      → IsUnderWay trees (calls ++ kept_leaf l ∷ []) rest around groups (joined here (leaf l empty))
  leaf_kept l rest way =
      after_call (kept_leaf l) (leaf l rest) rest around groups (joined here (leaf l empty)) way
      (λ more g (f, mine, others, made, all, k).
      (leaf l f, kept_leaf l ∷ mine, others, leaf_stays l rest f mine made, ap (λ m. kept_leaf l ∷ m) all, done_with (leaf l empty) f _ others g (joined_assoc here (leaf l empty) f) k))

  pub leaf_put : (l : Leaf) (put rest : Forest) → IsUnderWay trees calls (leaf l rest) around groups here
      → IsUnderWay trees (calls ++ put_leaf l put ∷ []) rest around groups (joined here put)
  leaf_put l put rest way =
      after_call (put_leaf l put) (leaf l rest) rest around groups (joined here put) way
      (λ more g (f, mine, others, made, all, k).
      (joined put f, put_leaf l put ∷ mine, others, leaf_gives_way l rest put f mine made, ap (λ m. put_leaf l put ∷ m) all, done_with put f _ others g (joined_assoc here put f) k))

  pub group_put : (d : Delimiter) (inner put rest : Forest) → IsUnderWay trees calls (group d inner rest) around groups here
      → IsUnderWay trees (calls ++ put_group d inner put ∷ []) rest around groups (joined here put)
  group_put d inner put rest way =
      after_call (put_group d inner put) (group d inner rest) rest around groups (joined here put) way
      (λ more g (f, mine, others, made, all, k).
      (joined put f, put_group d inner put ∷ mine, others, group_gives_way d inner rest put f mine made, ap (λ m. put_group d inner put ∷ m) all, done_with put f _ others g (joined_assoc here put f) k))

  pub group_kept : (d : Delimiter) (inner rest : Forest) → IsUnderWay trees calls (group d inner rest) around groups here
      → IsUnderWay trees (calls ++ kept_group d inner ∷ []) inner (record { close_span = d.close_span; rest = rest } ∷ around)
      (record { kind = d.kind; open_span = d.open_span; before = here } ∷ groups) empty
  group_kept d inner rest way =
      after_call (kept_group d inner) (group d inner rest) inner (record { close_span = d.close_span; rest = rest } ∷ around)
      (record { kind = d.kind; open_span = d.open_span; before = here } ∷ groups) empty way
      (λ more g (f, mine, others, made, all, (f2, mine2, others2, made2, all2, k)). (
        group d f f2,
        kept_group d inner ∷ mine ++ mine2,
        others2,
        group_stays d inner rest f f2 mine mine2 made made2,
        ap (λ m. kept_group d inner ∷ m) (all ∙ ap (λ m. mine ++ m) all2 ∙ sym (append_assoc mine mine2 others2)),
        done_with (group d f empty) f2 _ others2 g (joined_assoc here (group d f empty) f2) k,
      ))

-- a group is left: it comes after the trees before it
pub group_left : (trees : Forest) (calls : List Call) (a : Around) (outer : List Around) (o : Opened) (groups : List Opened) (here : Forest)
    → IsUnderWay trees calls empty (a ∷ outer) (o ∷ groups) here
    → IsUnderWay trees calls a.rest outer groups (joined o.before (group (closed_by a o) here empty))
group_left trees calls a outer o groups here way more g rest =
    way more g (empty, [], more, nothing, refl, subst (λ x. IsDone (a ∷ outer) (o ∷ groups) x more g) (sym (joined-empty here)) rest)

-- the same where the innermost group of a builder is closed
module _ (trees : Forest) (calls : List Call) (a : Around) (outer : List Around) where
  pub left_closed : (groups : List Opened) (b : Building) → length (a ∷ outer) ≡ length groups → IsUnderWay trees calls empty (a ∷ outer) groups b.here
      → IsUnderWay trees calls a.rest outer (closed_in groups b a.close_span).groups (closed_in groups b a.close_span).here
  left_closed [] b tied way = absurd (omega (arith, tied))
  left_closed (o ∷ groups) b tied way = group_left trees calls a outer o groups b.here way

  pub tied_closed : (groups : List Opened) (b : Building) → length (a ∷ outer) ≡ length groups → length outer ≡ length (closed_in groups b a.close_span).groups
  tied_closed [] b tied = absurd (omega (arith, tied))
  tied_closed (o ∷ groups) b tied = omega (arith, tied)

pub top_closed : (groups : List Opened) (b : Building) (span : Span) → (closed_in groups b span).top ≡ b.top
top_closed [] b span = refl
top_closed (o ∷ groups) b span = refl

-- at the end nothing is left
pub all_made : (trees : Forest) (calls : List Call) (here : Forest) → IsUnderWay trees calls empty [] [] here → IsRewritten trees calls here
all_made trees calls here way =
    let P : List Call → Type 0 = λ m. IsRewritten trees m here in
    subst P (append-nil calls) (way [] here (empty, [], [], nothing, refl, (refl, sym (joined-empty here))))

-- calls that take all trees away
abbrev removals : Forest → List Call
removals empty = []
removals (leaf l rest) = put_leaf l empty ∷ removals rest
removals (group d inner rest) = put_group d inner empty ∷ removals rest

removed : (f : Forest) → IsRewritten f (removals f) empty
removed empty = nothing
removed (leaf l rest) = leaf_gives_way l rest empty empty (removals rest) (removed rest)
removed (group d inner rest) = group_gives_way d inner rest empty empty (removals rest) (removed rest)

all_removals : (f : Forest) → All IsRemoval (removals f)
all_removals empty = All-nil IsRemoval
all_removals (leaf l rest) = All-cons IsRemoval (put_leaf l empty) (removals rest) refl (all_removals rest)
all_removals (group d inner rest) = All-cons IsRemoval (put_group d inner empty) (removals rest) refl (all_removals rest)

-- what would come of the walk, were all that is left taken away: all that is there already is in it
record Cut (around : List Around) (groups : List Opened) (all : Forest) : Type 0 where
  more : List Call
  whole : Forest
  removing : All IsRemoval more
  done : IsDone around groups all more whole
  counts : size all + count_in groups ≤ size whole

cut : (around : List Around) (groups : List Opened) (all : Forest) → length around ≡ length groups → Cut around groups all
cut [] [] all tied = record { more = []; whole = all; removing = All-nil IsRemoval; done = (refl, refl); counts = omega arith }
cut [] (o ∷ groups) all tied = absurd (omega (arith, tied))
cut (a ∷ outer) [] all tied = absurd (omega (arith, tied))
cut (a ∷ outer) (o ∷ groups) all tied =
    let closed : Forest = joined o.before (group (closed_by a o) all empty) in
    let c : Cut outer groups (joined closed empty) = cut outer groups (joined closed empty) (omega (arith, tied)) in
    record {
      more = removals a.rest ++ c.more;
      whole = c.whole;
      removing = All-append IsRemoval (removals a.rest) c.more (all_removals a.rest) c.removing;
      done = (empty, removals a.rest, c.more, removed a.rest, refl, c.done);
      counts = omega (arith, c.counts, size-joined closed empty, size-joined o.before (group (closed_by a o) all empty));
    }

-- so the walk may end with as many tokens as are there now, or more
pub record Least (trees : Forest) (calls : List Call) (n : ℕ) : Type 0 where
  pub whole : Forest
  pub begun : IsStarted trees calls whole
  pub counts : n ≤ size whole

pub least : (trees : Forest) (calls : List Call) (left : Forest) (around : List Around) (groups : List Opened) (here : Forest) → length around ≡ length groups
    → IsUnderWay trees calls left around groups here → Least trees calls (size here + count_in groups)
least trees calls left around groups here tied way =
    let c : Cut around groups (joined here empty) = cut around groups (joined here empty) tied in
    let more : List Call = removals left ++ c.more in
    record {
      whole = c.whole;
      begun = (more, All-append IsRemoval (removals left) c.more (all_removals left) c.removing, way more c.whole (empty, removals left, c.more, removed left, refl, c.done));
      counts = omega (arith, c.counts, size-joined here empty);
    }

-- where a walk stands: these calls were made, these trees are left, and this is what it has made
abbrev pub IsAt : Forest → Delimiter → List Call → Forest → List Around → Building → Type 0
IsAt trees top calls left around b = (b.top ≡ top) × (length around ≡ length b.groups) × IsUnderWay trees calls left around b.groups b.here

abbrev pub Stands : Forest → Delimiter → List Call → Standing → Type 0
Stands trees top calls s = IsAt trees top calls s.left s.around s.tree

module _ (trees : Forest) (top : Delimiter) (calls : List Call) where
  pub least_at : (left : Forest) (around : List Around) (b : Building) → IsAt trees top calls left around b → Least trees calls (count_of b)
  least_at left around b (same, tied, way) = least trees calls left around b.groups b.here tied way

  module _ (around : List Around) (b : Building) where
    leaf_asked : (l : Leaf) (put : Option Forest) (rest : Forest) → IsAt trees top calls (leaf l rest) around b
        → IsAt trees top (calls ++ record { token = token.Leaf l; put = put } ∷ []) rest around (with_answer (record { token = token.Leaf l; put = put }) b)
    leaf_asked l None rest (same, tied, way) = (same, tied, leaf_kept trees calls around b.groups b.here l rest way)
    leaf_asked l (Some f) rest (same, tied, way) = (same, tied, leaf_put trees calls around b.groups b.here l f rest way)

    pub leaf_answered : (c : Call) (l : Leaf) (rest : Forest) → c.token ≡ token.Leaf l → IsAt trees top calls (leaf l rest) around b
        → IsAt trees top (calls ++ c ∷ []) rest around (with_answer c b)
    leaf_answered c l rest is at =
        subst (λ t. IsAt trees top (calls ++ record { token = t; put = c.put } ∷ []) rest around (with_answer (record { token = t; put = c.put }) b)) (sym is) (leaf_asked l c.put rest at)

    -- a group by its head
    module _ (s : Subtree) (inner rest : Forest) where
      abbrev call_of : Option Forest → Call
      call_of put = record { token = token.Subtree s; put = put }

      abbrev outside : List Around
      outside = record { close_span = s.delimiter.close_span; rest = rest } ∷ around

      -- the walk goes on inside the group, or after it
      abbrev IsAfter : Bool → Call → Type 0
      IsAfter true c = IsAt trees top (calls ++ c ∷ []) inner outside (with_answer c b)
      IsAfter false c = IsAt trees top (calls ++ c ∷ []) rest around (with_answer c b)

      group_asked : (put : Option Forest) → token.Subtree s ≡ head_of s.delimiter (size inner) → IsAt trees top calls (group s.delimiter inner rest) around b → IsAfter (is_none put) (call_of put)
      group_asked None is (same, tied, way) = (
        same,
        omega (arith, tied),
        subst (λ t. IsUnderWay trees (calls ++ record { token = t; put = None } ∷ []) inner outside (record { kind = s.delimiter.kind; open_span = s.delimiter.open_span; before = b.here } ∷ b.groups) empty) (sym is)
            (group_kept trees calls around b.groups b.here s.delimiter inner rest way),
      )
      group_asked (Some f) is (same, tied, way) = (
        same,
        tied,
        subst (λ t. IsUnderWay trees (calls ++ record { token = t; put = Some f } ∷ []) rest around b.groups (joined b.here f)) (sym is)
            (group_put trees calls around b.groups b.here s.delimiter inner f rest way),
      )

      group_after : (c : Call) → c.token ≡ token.Subtree s → s.len ≡ size inner → IsAt trees top calls (group s.delimiter inner rest) around b → IsAfter (is_none c.put) c
      group_after c is len at =
          subst (λ t. IsAfter (is_none c.put) (record { token = t; put = c.put })) (sym is) (group_asked c.put (ap (λ n. head_of s.delimiter n) len) at)

      chosen : (o : Bool) (c : Call) → IsAfter o c
          → Stands trees top (calls ++ c ∷ []) (if o then record { tree = with_answer c b; left = inner; around = outside } else record { tree = with_answer c b; left = rest; around = around })
      chosen true c at = at
      chosen false c at = at

      pub stands_entered : (c : Call) → c.token ≡ token.Subtree s → s.len ≡ size inner → IsAt trees top calls (group s.delimiter inner rest) around b
          → Stands trees top (calls ++ c ∷ []) (entered c s inner (record { tree = b; left = rest; around = around }))
      stands_entered c is len at = chosen (is_none c.put) c (group_after c is len at)

      least_of : (c : Call) (o : Bool) → IsAfter o c → Least trees (calls ++ c ∷ []) (count_of (with_answer c b))
      least_of c true (same, tied, way) = least trees (calls ++ c ∷ []) inner outside (with_answer c b).groups (with_answer c b).here tied way
      least_of c false (same, tied, way) = least trees (calls ++ c ∷ []) rest around (with_answer c b).groups (with_answer c b).here tied way

      pub group_least : (c : Call) → c.token ≡ token.Subtree s → s.len ≡ size inner → IsAt trees top calls (group s.delimiter inner rest) around b
          → Least trees (calls ++ c ∷ []) (count_of (with_answer c b))
      group_least c is len at = least_of c (is_none c.put) (group_after c is len at)

  -- nothing is left inside the innermost group: the walk goes on after it, or is at its end
  module _ (left : Forest) (around : List Around) (b : Building) where
    pub closed_at : (a : Around) (outer : List Around) → left ≡ empty → around ≡ a ∷ outer → IsAt trees top calls left around b
        → IsAt trees top calls a.rest outer (closed b a.close_span)
    closed_at a outer none last at =
        let (same, tied, way) = subst (λ o. IsAt trees top calls empty o b) last (subst (λ f. IsAt trees top calls f around b) none at) in
        (top_closed b.groups b a.close_span ∙ same, tied_closed trees calls a outer b.groups b tied, left_closed trees calls a outer b.groups b tied way)

    pub ended_at : left ≡ empty → around ≡ [] → b.groups ≡ [] → IsAt trees top calls left around b → IsRewritten trees calls b.here
    ended_at none last bare (same, tied, way) =
        all_made trees calls b.here
        (subst (λ o. IsUnderWay trees calls empty [] o b.here) bare (subst (λ o. IsUnderWay trees calls empty o b.groups b.here) last (subst (λ f. IsUnderWay trees calls f around b.groups b.here) none way)))

  -- the same of a step that leaves the innermost group
  pub stands_left : (s t : Standing) → s.left ≡ empty → LeavesGroup s t → Stands trees top calls s → Stands trees top calls t
  stands_left s t none (a, last, rest, tree) at =
      subst (λ b. IsAt trees top calls t.left t.around b) (sym tree)
      (subst (λ f. IsAt trees top calls f t.around (closed s.tree a.close_span)) (sym rest) (closed_at s.left s.around s.tree a t.around none last at))

-- a fault that is handed on is the one that came
pub handed : {A B : Type 0} (r : Result A TtFault) (came : TtFault) {fault : TtFault} → IsErrAnd r (λ e. e ≡ came) → r ≡ Err fault
    → ◌≡◌ {A = Result B TtFault} (Err came) (Err fault)
handed (Ok a) came is e = absurd is
handed (Err x) came is e = cc

pub handed_back : {A B : Type 0} (r : Result A TtFault) (came : TtFault) {fault : TtFault} → IsErrAnd r (λ e. e ≡ came)
    → ◌≡◌ {A = Result B TtFault} (Err came) (Err fault) → r ≡ Err fault
handed_back (Ok a) came is e = absurd is
handed_back (Err x) came is e = cc

-- the top stays, or gives way
module _ (t : Top) where
  pub top_kept : (calls : List Call) (f : Forest) → IsRewritten t.inner calls f
      → IsRewritten (forest_of_top t) (kept_group t.delimiter t.inner ∷ calls) (forest_of_top (record { delimiter = t.delimiter; inner = f }))
  top_kept calls f made =
      let P : List Call → Type 0 = λ m. IsRewritten (forest_of_top t) (kept_group t.delimiter t.inner ∷ m) (group t.delimiter f empty) in
      subst P (append-nil calls) (group_stays t.delimiter t.inner empty f empty calls [] made nothing)

  pub top_begun : (calls : List Call) (f : Forest) → IsStarted t.inner calls f
      → IsStarted (forest_of_top t) (kept_group t.delimiter t.inner ∷ calls) (forest_of_top (record { delimiter = t.delimiter; inner = f }))
  top_begun calls f (more, removing, made) = (more, removing, top_kept (calls ++ more) f made)

  pub top_put : (put : Forest) → IsRewritten (forest_of_top t) (put_group t.delimiter t.inner put ∷ []) put
  top_put put =
      subst (IsRewritten (forest_of_top t) (put_group t.delimiter t.inner put ∷ [])) (joined-empty put)
      (group_gives_way t.delimiter t.inner empty put empty [] nothing)

-- trees that are one group
pub only_is_top : (f : Forest) (t : Top) → Some t ≡ only_group f → f ≡ forest_of_top t
only_is_top empty t is = absurd (grind (arith, is))
only_is_top (leaf l rest) t is = absurd (grind (arith, is))
only_is_top (group d inner empty) t is = cc
only_is_top (group d inner (leaf l rest)) t is = absurd (grind (arith, is))
only_is_top (group d inner (group e more rest)) t is = absurd (grind (arith, is))

-- what holds of a result, where that follows from what is known of it
pub followed : {T E : Type 0} (P Q : T → Type 0) (r : Result T E) → ((x : T) → P x → Q x) → IfOk r P → IfOk r Q
followed P Q (Ok x) f p = f x p
followed P Q (Err e) f p = p

-- what holds anyway holds at each error of a kind
pub at_errors : {T E : Type 0} (A : E → Type 0) (X : Type 0) (r : Result T E) → X → IfErr r (λ e. A e → X)
at_errors A X (Ok t) x = tt
at_errors A X (Err e) x = λ _. x

-- a call about a tree's own head, of which the head is known in other words
pub asked_kept : {F : Type 0} (g : Mut F (Bor TokenTree × Unit {0}) TransformTtAction) (f f' : F) (t : Top) (h : Subtree)
    → h ≡ record { delimiter = t.delimiter; len = size t.inner } → CalledAt g f (token.Subtree h) Keep f'
    → IsAnswered g f (kept_group t.delimiter t.inner) f'
asked_kept g f f' t h same called = (Keep, subst (λ x. CalledAt g f (token.Subtree x) Keep f') same called, refl)

pub asked_put : {F : Type 0} (g : Mut F (Bor TokenTree × Unit {0}) TransformTtAction) (f f' : F) (t : Top) (h : Subtree) (v : TokenTreesView)
    → h ≡ record { delimiter = t.delimiter; len = size t.inner } → CalledAt g f (token.Subtree h) (ReplaceWith v) f'
    → IsAnswered g f (put_group t.delimiter t.inner (forest v)) f'
asked_put g f f' t h v same called = (ReplaceWith v, subst (λ x. CalledAt g f (token.Subtree x) (ReplaceWith v) f') same called, refl)
