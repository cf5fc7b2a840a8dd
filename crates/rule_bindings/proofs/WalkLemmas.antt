-- What is left of a walk over repetitions after a step.
use Rattle.std.proofs.Common.{◌≡◌, refl, sym, ap, ◌∙◌, ℕ, suc, ◌+◌, ◌*◌, ◌<◌, ◌≤◌, List, [], ◌∷◌}
use Rattle.std.proofs.Common.{◌++◌, Option, Some, None, reverse, arith}
use Rattle.std.specs.Borrow.{Bor}
use Rattle.std.specs.Option.{option_or}
use Rattle.std.specs.declared.alloc.Global.{Global}
use Rattle.std.specs.declared.vec.Vec.{Vec}
use Rattle.std.proofs.lemmas.List.{reverse-append}
use Rattle.std.proofs.lemmas.List.Sums.{sum_by-append}
use Rattle.tt_data.specs.declared.delimiter.Delimiter.{Delimiter}
use Rattle.mbe_rules.specs.Items.{Items, done}
use Rattle.mbe_rules.specs.Ops.{items_of, put_op}
use Rattle.mbe_rules.specs.declared.parser.Op.{Op, Repeat', Subtree'}
use Rattle.mbe_matcher.specs.Bindings.{Map}
use Rattle.mbe_transcriber.specs.Tasks.{work_of}
use Rattle.mbe_rules.specs.declared.parser.Op.{Repeat, Subtree}
use Rattle.mbe_rules.specs.declared.parser.RepeatKind.{RepeatKind}
use Rattle.mbe_rules.specs.declared.parser.Separator.{Separator}
use Rattle.mbe_rules.proofs.OpsLemmas.{put-Repeat, put-Subtree}
use Rattle.mbe_transcriber.proofs.FillTaskLemmas.{around-last, rep-work, sub-work, work-more}
use Rattle.rule_bindings.specs.Notes.{Unequal, in_rounds, unequal_in}
use Rattle.rule_bindings.specs.Walks.{left_in, rounds_left, unequal_here, weight_of}
use Rattle.rule_bindings.specs.Walks.{weight_of_all}
use Rattle.rule_bindings.specs.declared.rounds.Rounds.{Rounds}
use Rattle.rule_bindings.specs.declared.rounds.Task.{Task}
use Rattle.rule_bindings.specs.declared.rounds.Task.TheVariants.{Items as items_task, Leave, Round}

pub or-assoc : {A : Type 0} (a b c : Option A)
    → option_or (option_or a b) c ≡ option_or a (option_or b c)
or-assoc None b c = refl
or-assoc (Some x) b c = refl

-- the first in an op and others
pub unequal-put : (m : Map) (ns : List ℕ) (o : Op) (rest : Items)
    → unequal_in m ns (put_op o rest)
    ≡ option_or (unequal_in m ns (put_op o done)) (unequal_in m ns rest)
unequal-put m ns (Repeat' shape row sep k) rest = sym (or-assoc _ None (unequal_in m ns rest))
unequal-put m ns (Subtree' shape row d) rest = sym (or-assoc _ None (unequal_in m ns rest))
unequal-put m ns _ rest = refl

-- the task that is planned last comes next
pub on-top : (ts : List Task) (t : Task) → reverse (ts ++ (t ∷ [])) ≡ t ∷ reverse ts
on-top ts t = reverse-append ts (t ∷ [])

pub one-more : (ts : List Task) (t : Task)
    → weight_of_all (ts ++ (t ∷ [])) ≡ weight_of_all ts + weight_of t
one-more ts t =
    let alone : weight_of_all (t ∷ []) ≡ weight_of t = omega arith in
    omega (arith, sum_by-append weight_of ts (t ∷ []), alone)

or-None : {A : Type 0} (a : Option A) → option_or a None ≡ a
or-None None = refl
or-None (Some x) = refl

-- ---- an op with ops inside

module _ (m : Map) (ns : List ℕ) (op : Op) (ops : Bor (List Op)) (v : Vec Op Global)
    (same : ops.now ≡ v.items) where
  group-first : (d : Delimiter) → op ≡ Subtree v d
      → unequal_in m ns (items_of ops.now) ≡ unequal_in m ns (put_op op done)
  group-first d is =
      ap (λ xs. unequal_in m ns (items_of xs)) same
      ∙ sym (or-None (unequal_in m ns (items_of v.items)))
      ∙ sym (ap (unequal_in m ns) (put-Subtree v d done))
      ∙ sym (ap (λ o. unequal_in m ns (put_op o done)) is)

  -- a group is entered
  pub in-group : (d : Delimiter) → op ≡ Subtree v d → (ts new : List Task)
      → new ≡ ts ++ (items_task ops ∷ [])
      → left_in m (reverse new) ns
      ≡ option_or (unequal_in m ns (put_op op done)) (left_in m (reverse ts) ns)
  in-group d is ts new e =
      ap (λ l. left_in m l ns) (ap reverse e ∙ on-top ts (items_task ops))
      ∙ ap (λ o. option_or o (left_in m (reverse ts) ns)) (group-first d is)

  pub group-lighter : (d : Delimiter) → op ≡ Subtree v d → (ts new : List Task)
      → new ≡ ts ++ (items_task ops ∷ [])
      → weight_of_all new < weight_of_all ts + work_of (put_op op done)
  group-lighter d is ts new e =
      omega (
        arith,
        ap weight_of_all e,
        one-more ts (items_task ops),
        sub-work v d op ops.now is same,
      )

  -- a repetition is an op
  pub repetition-first : (sep : Option Separator) (k : RepeatKind) → op ≡ Repeat v sep k
      → unequal_here m ns (items_of ops.now) k ≡ unequal_in m ns (put_op op done)
  repetition-first sep k is =
      ap (λ xs. unequal_here m ns (items_of xs) k) same
      ∙ sym (or-None (unequal_here m ns (items_of v.items) k))
      ∙ sym (ap (unequal_in m ns) (put-Repeat v sep k done))
      ∙ sym (ap (λ o. unequal_in m ns (put_op o done)) is)

  pub repetition-lighter : (sep : Option Separator) (k : RepeatKind) → op ≡ Repeat v sep k
      → (old new : ℕ) → new ≤ old + (1 + 65535 * (work_of (items_of ops.now) + 3))
      → new < old + work_of (put_op op done)
  repetition-lighter sep k is old new h = omega (arith, h, rep-work v sep k op ops.now is same)

-- ---- the first of some ops

module _ (m : Map) (ns : List ℕ) (first : Op) (ops : List Op) (rest : Bor (List Op))
    (is : ops ≡ first ∷ rest.now) (ts new : List Task) (e : new ≡ ts ++ (items_task rest ∷ []))
  where
    -- it is entered, and the others are planned
    pub in-first : option_or (unequal_in m ns (put_op first done)) (left_in m (reverse new) ns)
        ≡ option_or (unequal_in m ns (items_of ops)) (left_in m (reverse ts) ns)
    in-first =
        let all = left_in m (reverse ts) ns in
        let here = unequal_in m ns (put_op first done) in
        ap (λ l. option_or here (left_in m l ns)) (ap reverse e ∙ on-top ts (items_task rest))
        ∙ sym (or-assoc here (unequal_in m ns (items_of rest.now)) all)
        ∙ ap (λ u. option_or u all) (sym (ap (λ xs. unequal_in m ns (items_of xs)) is
        ∙ unequal-put m ns first (items_of rest.now)))

    pub first-lighter : (n : ℕ) → n < weight_of_all new + work_of (put_op first done)
        → n < weight_of_all ts + (1 + work_of (items_of ops))
    first-lighter n h =
        omega (
          arith,
          h,
          ap weight_of_all e,
          one-more ts (items_task rest),
          work-more first ops rest.now is,
        )

-- ---- iterations

-- the first of some is entered, and the others are planned
pub in-round : (m : Map) (ns ms : List ℕ) (ts a b c : List Task) (x y : Rounds)
    → c ≡ b ++ (items_task x.body ∷ []) → b ≡ a ++ (Leave ∷ []) → a ≡ ts ++ (Round y ∷ [])
    → ms ≡ ns ++ (x.number ∷ []) → y.body ≡ x.body → suc y.left ≡ x.left
    → y.number ≡ suc x.number
    → left_in m (reverse c) ms ≡ left_in m (Round x ∷ reverse ts) ns
in-round m ns ms ts a b c x y third second first added body fewer next =
    let rest = left_in m (reverse ts) ns in
    let at : ℕ → Option Unequal = λ r. unequal_in m (ns ++ (r ∷ [])) (items_of x.body.now) in
    let top : reverse c ≡ items_task x.body ∷ Leave ∷ Round y ∷ reverse ts =
    ap reverse third ∙ on-top b (items_task x.body)
    ∙ ap (λ l. items_task x.body ∷ l) (ap reverse second ∙ on-top a Leave
    ∙ ap (λ l. Leave ∷ l) (ap reverse first ∙ on-top ts (Round y))) in
    let same : rounds_left m ns y ≡ in_rounds at y.left (suc x.number) =
    ap (λ (ops : Bor (List Op)). in_rounds (λ r. unequal_in m (ns ++ (r ∷ [])) (items_of ops.now))
    y.left y.number) body
    ∙ ap (in_rounds at y.left) next in
    ap (λ l. left_in m l ms) top
    ∙ ap (left_in m (items_task x.body ∷ Leave ∷ Round y ∷ reverse ts)) added
    ∙ ap (λ l. option_or (at x.number) (left_in m (Round y ∷ reverse ts) l))
    (around-last ns x.number)
    ∙ ap (λ o. option_or (at x.number) (option_or o rest)) same
    ∙ sym (or-assoc (at x.number) (in_rounds at y.left (suc x.number)) rest)
    ∙ ap (λ k. option_or (in_rounds at k x.number) rest) fewer
