-- The tasks of transcribing: what one does and leaves to do comes to the same result.
use Rattle.std.proofs.Common.{◌≡◌, refl, sym, ap, subst, ◌∙◌, ℕ, zero, suc, ◌+◌, ◌-◌, ◌*◌, ◌<◌, ◌≤◌, nat_lt, Bool, true, false, not, List, [], ◌∷◌, ◌++◌, length, take, reverse, Option, Some, None, option_map, if◌then◌else◌, arith}
use Rattle.std.specs.Borrow.{Bor}
use Rattle.std.specs.Prelude.{IfSome, MatchOption, OnOk, Result, Ok, Err}
use Rattle.std.proofs.lemmas.List.{reverse-append}
use Rattle.std.proofs.lemmas.List.Sums.{sum_by-append}
use Rattle.std.proofs.Math.Seq.{take-append_seam}
use Rattle.std.proofs.lemmas.List.{length-append}
use Rattle.std.specs.declared.alloc.Global.{Global}
use Rattle.std.specs.declared.vec.Vec.{Vec}
use Rattle.tt.specs.Building.{Building, Opened, extended, opened, closed, count_of, count_in, most_tokens}
use Rattle.tt_data.specs.Forest.{Forest, empty, group, joined, size}
use Rattle.tt_data.proofs.ForestLemmas.{size-joined}
use Rattle.tt_data.specs.declared.delimiter.Delimiter.{Delimiter}
use Rattle.tt_data.specs.declared.span.Span.{Span}
use Rattle.tt_data.specs.fault.TtFault.{TtFault}
use Rattle.mbe_rules.specs.Items as spec
use Rattle.mbe_rules.specs.Items.{Items, done, item, group_of, repetition, may_skip}
use Rattle.mbe_rules.specs.Ops.{put_op, items_of, separator_of}
use Rattle.mbe_rules.specs.declared.parser.Op.{Op, Repeat, Subtree, Repeat', Subtree'}
use Rattle.mbe_rules.specs.declared.parser.RepeatKind.{RepeatKind}
use Rattle.mbe_rules.specs.declared.parser.RepeatKind.TheVariants.{ZeroOrMore, OneOrMore, ZeroOrOne}
use Rattle.mbe_rules.specs.declared.parser.Separator.{Separator}
use Rattle.mbe_rules.proofs.OpsLemmas.{put-Repeat, put-Subtree}
use Rattle.mbe_matcher.specs.Bindings.{Map}
use Rattle.mbe_transcriber.specs.Filling.{both, rounds_from, separator_leaves}
use Rattle.mbe_transcriber.specs.Limits.{most_rounds}
use Rattle.mbe_transcriber.specs.Given.{Ends, FailsAfter, Fills, IsBurstBy, is_plain, is_single, gives, puts_out, first_gives, first_puts_out, group_gives, repetition_gives, repetition_puts_out, stands_in, later_gives, later_puts_out, HasRounds}
use Rattle.mbe_transcriber.specs.Output.{and_then, output_from}
use Rattle.mbe_transcriber.specs.Room.{LacksRoom}
use Rattle.mbe_transcriber.specs.Tasks.{Outcome, filled_up, faulty, reached, IsFaulty, put_and, close_in, around, items_and, rounds_and, outcome, GoesOn, Steps, IsBurstIn, work_of, tasks_of, tasks_of_all}
use Rattle.mbe_transcriber.specs.declared.repetition.Iterations.{Iterations}
use Rattle.mbe_transcriber.specs.declared.transcriber.Transcribed.TheVariants.{Whole, Fault}
use Rattle.mbe_transcriber.specs.declared.transcriber.TranscribeTask.{TranscribeTask}
use Rattle.mbe_transcriber.specs.declared.transcriber.TranscribeTask.TheVariants.{Items as items_task, Close, Leave, Later}
use Rattle.mbe_transcriber.proofs.FillLemmas.{IsSized, unmoved, sized-gives, sized-first, sized-from, gives-put, puts-put, when_none, with_later, out_later, no-round, none-out, first-round, first-out, same-from, same-out}
use Rattle.tt.proofs.Limits.{count-extended}
use Rattle.mbe_transcriber.proofs.PuttingLemmas.{extended-more, unsome}

-- ---- lists of tasks

pub on-top : (ts : List TranscribeTask) (t : TranscribeTask) → reverse (ts ++ (t ∷ [])) ≡ t ∷ reverse ts
on-top ts t = reverse-append ts (t ∷ [])

alone : (t : TranscribeTask) → tasks_of_all (t ∷ []) ≡ tasks_of t
alone t = omega arith

pub one-more : (ts : List TranscribeTask) (t : TranscribeTask) → tasks_of_all (ts ++ (t ∷ [])) ≡ tasks_of_all ts + tasks_of t
one-more ts t = omega (arith, sum_by-append tasks_of ts (t ∷ []), alone t)

-- ---- the rounds around one

pub around-last : (ns : List ℕ) (n : ℕ) → around (ns ++ (n ∷ [])) ≡ ns
around-last ns n =
    ap (λ k. take k (ns ++ (n ∷ []))) (omega (arith, length-append ns (n ∷ []))) ∙ take-append_seam ns (n ∷ [])

-- ---- one thing, and then others

put-empty : (n : ℕ) (b : Building) (more : Building → Outcome) → put_and (Some empty) n b more ≡ more b
put-empty n b more = ap more (unmoved b)

put-same : (x : Option Forest) (n : ℕ) (b : Building) (more less : Building → Outcome) → ((t : Building) → more t ≡ less t) → put_and x n b more ≡ put_and x n b less
put-same None n b more less h = refl
put-same (Some f) n b more less h = h (extended b f)

put-both : (x y : Option Forest) (n m : ℕ) (b : Building) (more : Building → Outcome) → IsSized x n →
    put_and (both joined x y) (and_then x n m) b more ≡ put_and x n b (λ t. put_and y m t more)
put-both None y n m b more s = refl
put-both (Some f) None n m b more s =
    let e : count_of b + (n + m) ≡ count_of (extended b f) + m = omega (arith, s, count-extended b f) in ap faulty e
put-both (Some f) (Some g) n m b more s = ap more (sym (extended-more b f g))

-- a group
pub put-group : (mark : Span → Span) (bound : Map) (d : Delimiter) (x : Option Forest) (n : ℕ) (b : Building) (more : Building → Outcome) →
    put_and (group_gives mark bound d x) (suc n) b more
    ≡ put_and x n (opened b d.kind (mark d.open_span)) (λ t. close_in t.groups t (mark d.close_span) more)
put-group mark bound d None n b more =
    let e : count_of b + suc n ≡ count_of (opened b d.kind (mark d.open_span)) + n = omega arith in ap faulty e
put-group mark bound d (Some f) n b more = refl

-- a round after its separator
put-round : (sep : Forest) (x y : Option Forest) (n m : ℕ) (b : Building) (more : Building → Outcome) → IsSized x n →
    put_and (both (λ f rest. joined sep (joined f rest)) x y) (size sep + and_then x n m) b more
    ≡ put_and x n (extended b sep) (λ t. put_and y m t more)
put-round sep None y n m b more s =
    let e : count_of b + (size sep + n) ≡ count_of (extended b sep) + n = omega (arith, count-extended b sep) in ap faulty e
put-round sep (Some f) None n m b more s =
    let e : count_of b + (size sep + (n + m)) ≡ count_of (extended (extended b sep) f) + m =
    omega (arith, s, count-extended b sep, count-extended (extended b sep) f) in ap faulty e
put-round sep (Some f) (Some g) n m b more s =
    ap more (sym (extended-more (extended b sep) f g ∙ extended-more b sep (joined f g)))

-- ---- there are no fewer tokens in the end

put-least : (x : Option Forest) (n : ℕ) (b : Building) (more : Building → Outcome) → ((t : Building) → count_of t ≤ reached (more t)) → IsSized x n →
    count_of b + n ≤ reached (put_and x n b more)
put-least None n b more h s = omega arith
put-least (Some f) n b more h s = omega (arith, h (extended b f), s, count-extended b f)

count-closed : (o : Opened) (outer : List Opened) (b : Building) (s : Span) → b.groups ≡ o ∷ outer → count_of (closed b s) ≡ count_of b
count-closed o outer b s e =
    let k = size-joined o.before (group (record { open_span = o.open_span; close_span = s; kind = o.kind }) b.here empty) in
    let c : count_of (closed b s) ≡ size (joined o.before (group (record { open_span = o.open_span; close_span = s; kind = o.kind }) b.here empty)) + count_in outer =
    rw e refl in
    let d = ap count_in e in
    omega (arith, k, c, d)

close-least : (gs : List Opened) (b : Building) (s : Span) (more : Building → Outcome) → b.groups ≡ gs → ((t : Building) → count_of t ≤ reached (more t)) →
    count_of b ≤ reached (close_in gs b s more)
close-least [] b s more e h = omega arith
close-least (o ∷ outer) b s more e h = omega (arith, h (closed b s), count-closed o outer b s e)

module _ (mark : Span → Span) (bound : Map) where
  pub sized-later : (ns : List ℕ) (body : Items) (sep : Option spec.Separator) (n m r : ℕ) →
      IsSized (later_gives mark bound ns body sep n m r) (later_puts_out mark bound ns body sep n m r)
  sized-later ns body sep n m r =
      sized-from (λ k. nat_lt k n) (λ k. gives mark bound (ns ++ (k ∷ [])) body) (λ k. puts_out mark bound (ns ++ (k ∷ [])) body)
      (λ k. sized-gives mark bound (ns ++ (k ∷ [])) body) (separator_leaves sep) m r

  pub at-least : (ts : List TranscribeTask) (ns : List ℕ) (b : Building) → count_of b ≤ reached (outcome mark bound ts ns b)
  at-least [] ns b = omega arith
  at-least (items_task ops ∷ ts) ns b =
      let k =
      put-least (gives mark bound ns (items_of ops.now)) (puts_out mark bound ns (items_of ops.now)) b (outcome mark bound ts ns) (at-least ts ns)
      (sized-gives mark bound ns (items_of ops.now)) in
      omega (arith, k)
  at-least (Close s ∷ ts) ns b = close-least b.groups b (mark s) (outcome mark bound ts ns) refl (at-least ts ns)
  at-least (Leave ∷ ts) ns b = at-least ts (around ns) b
  at-least (Later x ∷ ts) ns b =
      let k =
      put-least (later_gives mark bound (around ns) (items_of x.body.now) (option_map (λ s. separator_of s.now) x.separator) x.count (most_rounds - x.number) x.number)
      (later_puts_out mark bound (around ns) (items_of x.body.now) (option_map (λ s. separator_of s.now) x.separator) x.count (most_rounds - x.number) x.number)
      b (outcome mark bound ts (around ns)) (at-least ts (around ns))
      (sized-later (around ns) (items_of x.body.now) (option_map (λ s. separator_of s.now) x.separator) x.count (most_rounds - x.number) x.number) in
      omega (arith, k)

  -- ---- items

  pub items-first : (ns : List ℕ) (o : Op) (xs rest : List Op) (b : Building) (more : Building → Outcome) → xs ≡ o ∷ rest →
      items_and mark bound ns (items_of xs) b more
      ≡ put_and (first_gives mark bound ns (put_op o done)) (first_puts_out mark bound ns (put_op o done)) b (λ t. items_and mark bound ns (items_of rest) t more)
  items-first ns o xs rest b more e =
      ap (λ l. items_and mark bound ns (items_of l) b more) e
      ∙ ap (λ x. put_and x (puts_out mark bound ns (put_op o (items_of rest))) b more) (gives-put mark bound ns o (items_of rest))
      ∙ ap
      (λ n. put_and (both joined (first_gives mark bound ns (put_op o done)) (gives mark bound ns (items_of rest))) n b more)
      (puts-put mark bound ns o (items_of rest))
      ∙ put-both (first_gives mark bound ns (put_op o done)) (gives mark bound ns (items_of rest)) (first_puts_out mark bound ns (put_op o done))
      (puts_out mark bound ns (items_of rest)) b more (sized-first mark bound ns (put_op o done))

  pub no-items : (ns : List ℕ) (ops : Bor (List Op)) (ts : List TranscribeTask) (b : Building) → ops.now ≡ [] →
      outcome mark bound (items_task ops ∷ ts) ns b ≡ outcome mark bound ts ns b
  no-items ns ops ts b e =
      ap (λ l. items_and mark bound ns (items_of l) b (outcome mark bound ts ns)) e ∙ put-empty 0 b (outcome mark bound ts ns)

  -- ---- rounds

  none-later : (ns : List ℕ) (body : Items) (sep : Option spec.Separator) (n m r : ℕ) → nat_lt r n ≡ false →
      later_gives mark bound ns body sep n m r ≡ Some empty
  none-later ns body sep n zero r e = ap (λ b. elim b [ true ↦ None | false ↦ Some empty ]) e
  none-later ns body sep n (suc m) r e = rw (e, rounds_from) refl

  over-later : (ns : List ℕ) (body : Items) (sep : Option spec.Separator) (n r : ℕ) → nat_lt r n ≡ true →
      later_gives mark bound ns body sep n 0 r ≡ None
  over-later ns body sep n r e = ap (λ b. elim b [ true ↦ None | false ↦ Some empty ]) e

  one-later : (ns : List ℕ) (body : Items) (sep : Option spec.Separator) (n m r : ℕ) → nat_lt r n ≡ true →
      later_gives mark bound ns body sep n (suc m) r
      ≡ both (λ f rest. joined (separator_leaves sep) (joined f rest)) (gives mark bound (ns ++ (r ∷ [])) body) (later_gives mark bound ns body sep n m (suc r))
  one-later ns body sep n m r e = rw (e, rounds_from) refl

  one-out : (ns : List ℕ) (body : Items) (sep : Option spec.Separator) (n m r : ℕ) → nat_lt r n ≡ true →
      later_puts_out mark bound ns body sep n (suc m) r
      ≡ size (separator_leaves sep)
      + and_then (gives mark bound (ns ++ (r ∷ [])) body) (puts_out mark bound (ns ++ (r ∷ [])) body) (later_puts_out mark bound ns body sep n m (suc r))
  one-out ns body sep n m r e = rw (e, output_from) refl

  abbrev later_of : List ℕ → Iterations → ℕ → ℕ → Option Forest
  later_of ns x = later_gives mark bound ns (items_of x.body.now) (option_map (λ s. separator_of s.now) x.separator) x.count

  abbrev out_of : List ℕ → Iterations → ℕ → ℕ → ℕ
  out_of ns x = later_puts_out mark bound ns (items_of x.body.now) (option_map (λ s. separator_of s.now) x.separator) x.count

  -- no round more stands
  pub no-more : (ns : List ℕ) (x : Iterations) (b : Building) (more : Building → Outcome) → nat_lt x.number x.count ≡ false →
      rounds_and mark bound ns x b more ≡ more b
  no-more ns x b more e =
      ap (λ o. put_and o (out_of ns x (most_rounds - x.number) x.number) b more) (none-later ns (items_of x.body.now) (option_map (λ s. separator_of s.now) x.separator) x.count (most_rounds - x.number) x.number e)
      ∙ put-empty (out_of ns x (most_rounds - x.number) x.number) b more

  -- one more stands than there may be
  pub too-many : (ns : List ℕ) (x : Iterations) (b : Building) (more : Building → Outcome) → nat_lt x.number x.count ≡ true →
      most_rounds ≤ x.number → IsFaulty b (rounds_and mark bound ns x b more)
  too-many ns x b more e most =
      let n : most_rounds - x.number ≡ 0 = omega (arith, most) in
      let none = ap (λ m. later_of ns x m x.number) n
      ∙ over-later ns (items_of x.body.now) (option_map (λ s. separator_of s.now) x.separator) x.count x.number e in
      let zero_out : out_of ns x (most_rounds - x.number) x.number ≡ 0 = ap (λ m. out_of ns x m x.number) n in
      let same : count_of b + out_of ns x (most_rounds - x.number) x.number ≡ count_of b = omega (arith, zero_out) in
      ap (λ o. put_and o (out_of ns x (most_rounds - x.number) x.number) b more) none ∙ ap faulty same

  -- the rounds after the next one
  abbrev pub after_next : Iterations → Iterations
  after_next x = record x { number = x.number + 1 }

  -- one more round stands
  pub one-more-round : (ts : List TranscribeTask) (ns : List ℕ) (x : Iterations) (b : Building) → nat_lt x.number x.count ≡ true →
      x.number < most_rounds →
      rounds_and mark bound ns x b (outcome mark bound ts ns)
      ≡ outcome mark bound (items_task x.body ∷ Later (after_next x) ∷ ts) (ns ++ (x.number ∷ []))
      (extended b (separator_leaves (option_map (λ s. separator_of s.now) x.separator)))
  one-more-round ts ns x b e less =
      let m = most_rounds - (x.number + 1) in
      let r = x.number in
      let body = items_of x.body.now in
      let s = option_map (λ s. separator_of s.now) x.separator in
      let n : most_rounds - x.number ≡ suc m = omega (arith, less) in
      let j : suc r ≡ r + 1 = omega arith in
      ap (λ k. put_and (later_of ns x k r) (out_of ns x k r) b (outcome mark bound ts ns)) n
      ∙ ap (λ o. put_and o (out_of ns x (suc m) r) b (outcome mark bound ts ns)) (one-later ns body s x.count m r e)
      ∙ ap
      (λ k. put_and (both (λ f rest. joined (separator_leaves s) (joined f rest)) (gives mark bound (ns ++ (r ∷ [])) body) (later_of ns x m (suc r))) k b (outcome mark bound ts ns))
      (one-out ns body s x.count m r e)
      ∙ put-round (separator_leaves s) (gives mark bound (ns ++ (r ∷ [])) body) (later_of ns x m (suc r)) (puts_out mark bound (ns ++ (r ∷ [])) body)
      (out_of ns x m (suc r)) b (outcome mark bound ts ns) (sized-gives mark bound (ns ++ (r ∷ [])) body)
      ∙ ap
      (λ k. put_and (gives mark bound (ns ++ (r ∷ [])) body) (puts_out mark bound (ns ++ (r ∷ [])) body) (extended b (separator_leaves s))
      (λ t. put_and (later_of ns x m k) (out_of ns x m k) t (outcome mark bound ts ns)))
      j
      ∙ ap
      (λ l. put_and (gives mark bound (ns ++ (r ∷ [])) body) (puts_out mark bound (ns ++ (r ∷ [])) body) (extended b (separator_leaves s))
      (λ t. put_and (later_of l x m (r + 1)) (out_of l x m (r + 1)) t (outcome mark bound ts l)))
      (sym (around-last ns r))

  -- its separator is put in
  pub round-least : (ts : List TranscribeTask) (ns : List ℕ) (x : Iterations) (b : Building) → nat_lt x.number x.count ≡ true →
      x.number < most_rounds →
      count_of b + size (separator_leaves (option_map (λ s. separator_of s.now) x.separator)) ≤ reached (rounds_and mark bound ns x b (outcome mark bound ts ns))
  round-least ts ns x b e less =
      let s = separator_leaves (option_map (λ s. separator_of s.now) x.separator) in
      let k = at-least (items_task x.body ∷ Later (after_next x) ∷ ts) (ns ++ (x.number ∷ [])) (extended b s) in
      let c = ap reached (one-more-round ts ns x b e less) in
      omega (arith, k, c, count-extended b s)

  -- a repetition whose first round doesn't stand
  pub no-rounds : (ns : List ℕ) (body : Items) (sep : Option spec.Separator) (k : RepeatKind) (b : Building) (more : Building → Outcome) →
      stands_in mark bound ns body 0 ≡ false →
      GoesOn (may_skip k) b (put_and (repetition_gives mark bound ns body sep k) (repetition_puts_out mark bound ns body sep k) b more) (more b)
  no-rounds ns body sep k b more e =
      go k (repetition_gives mark bound ns body sep k) (repetition_puts_out mark bound ns body sep k)
      (no-round (stands_in mark bound ns body) (λ r. gives mark bound (ns ++ (r ∷ [])) body) (λ r. puts_out mark bound (ns ++ (r ∷ [])) body)
      (separator_leaves sep) most_rounds k e)
      (none-out (stands_in mark bound ns body) (λ r. gives mark bound (ns ++ (r ∷ [])) body) (λ r. puts_out mark bound (ns ++ (r ∷ [])) body)
      (separator_leaves sep) most_rounds k e)
    where
      go : (k : RepeatKind) (x : Option Forest) (n : ℕ) → x ≡ when_none k → n ≡ 0 → GoesOn (may_skip k) b (put_and x n b more) (more b)
      go ZeroOrOne x n h z = ap (λ o. put_and o n b more) h ∙ put-empty n b more
      go ZeroOrMore x n h z = ap (λ o. put_and o n b more) h ∙ put-empty n b more
      go OneOrMore x n h z =
          let same : count_of b + n ≡ count_of b = omega (arith, z) in
          ap (λ o. put_and o n b more) h ∙ ap faulty same

  -- one whose first round stands
  pub rounds-begin : (ts : List TranscribeTask) (ns : List ℕ) (x : Iterations) (k : RepeatKind) (b : Building) → x.number ≡ 1 →
      HasRounds mark bound ns (items_of x.body.now) x.count → nat_lt 0 x.count ≡ true →
      put_and (repetition_gives mark bound ns (items_of x.body.now) (option_map (λ s. separator_of s.now) x.separator) k)
      (repetition_puts_out mark bound ns (items_of x.body.now) (option_map (λ s. separator_of s.now) x.separator) k) b (outcome mark bound ts ns)
      ≡ outcome mark bound (items_task x.body ∷ (if is_single k then Leave else Later x) ∷ ts) (ns ++ (0 ∷ [])) b
  rounds-begin ts ns x k b one so_many e =
      let body = items_of x.body.now in
      let s = option_map (λ s. separator_of s.now) x.separator in
      let below : (r : ℕ) → r ≤ most_rounds - 1 + 1 → stands_in mark bound ns body r ≡ nat_lt r x.count = λ r h. sym (so_many r (omega (arith, h))) in
      let stood : stands_in mark bound ns body 0 ≡ true = sym (so_many 0 (omega arith)) ∙ e in
      let c = first-round (stands_in mark bound ns body) (λ r. gives mark bound (ns ++ (r ∷ [])) body) (λ r. puts_out mark bound (ns ++ (r ∷ [])) body)
      (separator_leaves s) most_rounds k stood
      ∙ ap (with_later k (gives mark bound (ns ++ (0 ∷ [])) body))
      (same-from (stands_in mark bound ns body) (λ r. nat_lt r x.count) (λ r. gives mark bound (ns ++ (r ∷ [])) body) (separator_leaves s) (most_rounds - 1) 1 below) in
      let d = first-out (stands_in mark bound ns body) (λ r. gives mark bound (ns ++ (r ∷ [])) body) (λ r. puts_out mark bound (ns ++ (r ∷ [])) body)
      (separator_leaves s) most_rounds k stood
      ∙ ap (out_later k (gives mark bound (ns ++ (0 ∷ [])) body) (puts_out mark bound (ns ++ (0 ∷ [])) body))
      (same-out (stands_in mark bound ns body) (λ r. nat_lt r x.count) (λ r. gives mark bound (ns ++ (r ∷ [])) body) (λ r. puts_out mark bound (ns ++ (r ∷ [])) body)
      (size (separator_leaves s)) (most_rounds - 1) 1 below) in
      ap (λ o. put_and o (repetition_puts_out mark bound ns body s k) b (outcome mark bound ts ns)) c
      ∙ ap (λ n. put_and (with_later k (gives mark bound (ns ++ (0 ∷ [])) body) (later_of ns x (most_rounds - 1) 1)) n b (outcome mark bound ts ns)) d
      ∙ go k
    where
      several : put_and (both joined (gives mark bound (ns ++ (0 ∷ [])) (items_of x.body.now)) (later_of ns x (most_rounds - 1) 1))
          (and_then (gives mark bound (ns ++ (0 ∷ [])) (items_of x.body.now)) (puts_out mark bound (ns ++ (0 ∷ [])) (items_of x.body.now)) (out_of ns x (most_rounds - 1) 1))
          b (outcome mark bound ts ns)
          ≡ outcome mark bound (items_task x.body ∷ Later x ∷ ts) (ns ++ (0 ∷ [])) b
      several =
          put-both (gives mark bound (ns ++ (0 ∷ [])) (items_of x.body.now)) (later_of ns x (most_rounds - 1) 1)
          (puts_out mark bound (ns ++ (0 ∷ [])) (items_of x.body.now)) (out_of ns x (most_rounds - 1) 1) b (outcome mark bound ts ns)
          (sized-gives mark bound (ns ++ (0 ∷ [])) (items_of x.body.now))
          ∙ ap
          (λ n. put_and (gives mark bound (ns ++ (0 ∷ [])) (items_of x.body.now)) (puts_out mark bound (ns ++ (0 ∷ [])) (items_of x.body.now)) b
          (λ t. put_and (later_of ns x (most_rounds - n) n) (out_of ns x (most_rounds - n) n) t (outcome mark bound ts ns)))
          (sym one)
          ∙ ap
          (λ l. put_and (gives mark bound (ns ++ (0 ∷ [])) (items_of x.body.now)) (puts_out mark bound (ns ++ (0 ∷ [])) (items_of x.body.now)) b
          (λ t. put_and (later_of l x (most_rounds - x.number) x.number) (out_of l x (most_rounds - x.number) x.number) t (outcome mark bound ts l)))
          (sym (around-last ns 0))

      go : (k : RepeatKind) →
          put_and (with_later k (gives mark bound (ns ++ (0 ∷ [])) (items_of x.body.now)) (later_of ns x (most_rounds - 1) 1))
          (out_later k (gives mark bound (ns ++ (0 ∷ [])) (items_of x.body.now)) (puts_out mark bound (ns ++ (0 ∷ [])) (items_of x.body.now)) (out_of ns x (most_rounds - 1) 1))
          b (outcome mark bound ts ns)
          ≡ outcome mark bound (items_task x.body ∷ (if is_single k then Leave else Later x) ∷ ts) (ns ++ (0 ∷ [])) b
      go ZeroOrOne =
          ap (λ l. put_and (gives mark bound (ns ++ (0 ∷ [])) (items_of x.body.now)) (puts_out mark bound (ns ++ (0 ∷ [])) (items_of x.body.now)) b (outcome mark bound ts l))
          (sym (around-last ns 0))
      go ZeroOrMore = several
      go OneOrMore = several

-- ---- an item that holds no others

pub plain-steps : (r : Result Bool TtFault) (old new : Building) (x : Option Forest) (n : ℕ) (more : Building → Outcome) → Fills r old new x →
    FailsAfter r old new n → Steps r new (put_and x n old more) (more new)
plain-steps (Err e) old new x n more h k = tt
plain-steps (Ok true) old new None n more h k = absurd (cc h)
plain-steps (Ok true) old new (Some f) n more h k = ap more (sym (unsome h))
plain-steps (Ok false) old new None n more h k = ap faulty (sym (k refl))
plain-steps (Ok false) old new (Some f) n more h k = absurd (cc h)

-- ---- the items that are left

pub led : (mark : Span → Span) (bound : Map) (ts : List TranscribeTask) (ns ms : List ℕ) (ops left : Bor (List Op)) (old new : Building) (o : Option (Bor (List Op))) → ms ≡ ns →
    o ≡ Some left →
    MatchOption o (IsFaulty new (outcome mark bound (items_task ops ∷ ts) ms old))
    (λ l. outcome mark bound (items_task ops ∷ ts) ms old ≡ outcome mark bound (items_task l ∷ ts) ms new) →
    outcome mark bound (items_task ops ∷ ts) ns old ≡ outcome mark bound (items_task left ∷ ts) ns new
led mark bound ts ns ms ops left old new None same e h = absurd (cc e)
led mark bound ts ns ms ops left old new (Some l) same e h =
    subst (λ ks. outcome mark bound (items_task ops ∷ ts) ks old ≡ outcome mark bound (items_task left ∷ ts) ks new) same
    (subst (λ k. outcome mark bound (items_task ops ∷ ts) ms old ≡ outcome mark bound (items_task k ∷ ts) ms new) (unsome e) h)

pub left-fewer : (o : Option (Bor (List Op))) (left : Bor (List Op)) (n : ℕ) → o ≡ Some left → IfSome o (λ l. work_of (items_of l.now) ≤ n) → work_of (items_of left.now) ≤ n
left-fewer None left n e h = absurd (cc e)
left-fewer (Some l) left n e h = subst (λ k. work_of (items_of k.now) ≤ n) (unsome e) h

-- some were put out, if one that holds no others is left
pub left-stopped : (o : Option (Bor (List Op))) (left : Bor (List Op)) (n : ℕ) → o ≡ Some left →
    IfSome o (λ l. is_plain (items_of l.now) ≡ true → work_of (items_of l.now) < n) → is_plain (items_of left.now) ≡ true → work_of (items_of left.now) < n
left-stopped None left n e h = absurd (cc e)
left-stopped (Some l) left n e h = subst (λ k. is_plain (items_of k.now) ≡ true → work_of (items_of k.now) < n) (unsome e) h

-- ---- items that hold no others, before those that are left

pub plain-put : (o : Op) (rest : Items) → is_plain (put_op o rest) ≡ is_plain (put_op o done)
plain-put (Subtree' shape row d) rest = refl
plain-put (Repeat' shape row sep k) rest = refl
plain-put _ rest = refl

pub first-inside : (o : Op) (xs rest : List Op) → xs ≡ o ∷ rest → is_plain (put_op o done) ≡ is_plain (items_of xs)
first-inside o xs rest e = sym (ap (λ l. is_plain (items_of l)) e ∙ plain-put o (items_of rest))

unsaid : (b : Bool) → not b ≡ true → b ≡ false
unsaid true h = sym h
unsaid false h = refl

said : (b : Bool) → not b ≡ false → b ≡ true
said true h = refl
said false h = sym h

pub inside-left : (o : Op) (xs rest : List Op) (found : Bool) → xs ≡ o ∷ rest → found ≡ not (is_plain (put_op o done)) → found ≡ true → is_plain (items_of xs) ≡ false
inside-left o xs rest found e is so = sym (first-inside o xs rest e) ∙ unsaid (is_plain (put_op o done)) (sym is ∙ so)

pub plain-left : (o : Op) (xs rest : List Op) (found : Bool) → xs ≡ o ∷ rest → found ≡ not (is_plain (put_op o done)) → found ≡ false → is_plain (items_of xs) ≡ true
plain-left o xs rest found e is so = sym (first-inside o xs rest e) ∙ said (is_plain (put_op o done)) (sym is ∙ so)

module _ (mark : Span → Span) (bound : Map) (ns : List ℕ) (ts : List TranscribeTask) (o : Op) (xs : List Op) (rest : Bor (List Op)) (is : xs ≡ o ∷ rest.now) (start : Outcome)
    (old : Building) (e : start ≡ items_and mark bound ns (items_of xs) old (outcome mark bound ts ns)) where
  lead-steps : (ok : Bool) (new : Building) → Fills (Ok ok) old new (first_gives mark bound ns (put_op o done)) →
      FailsAfter (Ok ok) old new (first_puts_out mark bound ns (put_op o done)) →
      GoesOn ok new start (items_and mark bound ns (items_of rest.now) new (outcome mark bound ts ns))
  lead-steps ok new h k =
      subst (λ t. GoesOn ok new t (items_and mark bound ns (items_of rest.now) new (outcome mark bound ts ns)))
      (sym (e ∙ items-first mark bound ns o xs rest.now old (outcome mark bound ts ns) is))
      (plain-steps (Ok ok) old new (first_gives mark bound ns (put_op o done)) (first_puts_out mark bound ns (put_op o done))
      (λ t. items_and mark bound ns (items_of rest.now) t (outcome mark bound ts ns)) h k)

  pub lead-put : (ok : Bool) (new : Building) → Fills (Ok ok) old new (first_gives mark bound ns (put_op o done)) →
      FailsAfter (Ok ok) old new (first_puts_out mark bound ns (put_op o done)) → ok ≡ true →
      start ≡ items_and mark bound ns (items_of rest.now) new (outcome mark bound ts ns)
  lead-put ok new h k f =
      subst (λ b. GoesOn b new start (items_and mark bound ns (items_of rest.now) new (outcome mark bound ts ns))) f (lead-steps ok new h k)

  pub lead-fault : (ok : Bool) (new : Building) → Fills (Ok ok) old new (first_gives mark bound ns (put_op o done)) →
      FailsAfter (Ok ok) old new (first_puts_out mark bound ns (put_op o done)) → ok ≡ false → IsFaulty new start
  lead-fault ok new h k f =
      subst (λ b. GoesOn b new start (items_and mark bound ns (items_of rest.now) new (outcome mark bound ts ns))) f (lead-steps ok new h k)

  pub lead-bursts : most_tokens < count_of old + first_puts_out mark bound ns (put_op o done) → most_tokens < reached start
  lead-bursts lacks =
      let k =
      put-least (first_gives mark bound ns (put_op o done)) (first_puts_out mark bound ns (put_op o done)) old (outcome mark bound (items_task rest ∷ ts) ns)
      (at-least mark bound (items_task rest ∷ ts) ns) (sized-first mark bound ns (put_op o done)) in
      let d = ap reached (e ∙ items-first mark bound ns o xs rest.now old (outcome mark bound ts ns) is) in
      omega (arith, k, d, lacks)

-- ---- all of a template

-- all tokens in the end
pub all-out : (old : Building) (x : Option Forest) (n : ℕ) → IsSized x n → reached (put_and x n old filled_up) ≡ count_of old + n
all-out old None n s = refl
all-out old (Some f) n s = omega (arith, s, count-extended old f)

pub all-burst : (old : Building) (x : Option Forest) (n : ℕ) → IsSized x n → most_tokens < reached (put_and x n old filled_up) → most_tokens < count_of old + n
all-burst old x n s h = subst (λ k. most_tokens < k) (all-out old x n s) h

-- all was put out
pub ends-whole : (old new : Building) (x : Option Forest) (n most : ℕ) → IsSized x n → put_and x n old filled_up ≡ filled_up new → count_of new ≤ most →
    Ends Whole old new x n most
ends-whole old new None n most s h fits = absurd (cc h)
ends-whole old new (Some f) n most s h fits =
    let is : extended old f ≡ new = cc h in
    let many = ap count_of is in
    (ap Some is, (omega (arith, s, count-extended old f, many), fits))

-- there is a fault
pub ends-faulty : (old new : Building) (x : Option Forest) (n most : ℕ) → put_and x n old filled_up ≡ faulty (count_of new) → count_of new ≤ most →
    Ends Fault old new x n most
ends-faulty old new (Some f) n most h fits = absurd (cc h)
ends-faulty old new None n most h fits =
    let is : count_of old + n ≡ count_of new = cc h in
    (refl, (sym is, fits))

-- what a transcription without a limit says
pub filled-whole : (old new : Building) (o : Option Forest) (n most : ℕ) → Ends Whole old new o n most → Fills (Ok true) old new o
filled-whole old new o n most h = sym h.0

pub filled-fault : (old new : Building) (o : Option Forest) (n most : ℕ) → Ends Fault old new o n most → Fills (Ok false) old new o
filled-fault old new o n most h = ap (option_map (extended old)) (sym h.0)

-- more than `most` tokens are there on the way to this outcome
pub ends-passed : (old : Building) (x : Option Forest) (n most k : ℕ) → IsSized x n → k ≤ reached (put_and x n old filled_up) → most < k → most < count_of old + n
ends-passed old x n most k s h more = omega (arith, h, more, all-out old x n s)

-- ---- how many tasks come of items

work-put : (o : Op) (rest : Items) → work_of (put_op o rest) ≡ work_of (put_op o done) + work_of rest
work-put (Subtree' shape row d) rest = omega arith
work-put (Repeat' shape row sep k) rest = omega arith
work-put _ rest = refl

pub work-more : (o : Op) (xs rest : List Op) → xs ≡ o ∷ rest → work_of (items_of xs) ≡ work_of (put_op o done) + work_of (items_of rest)
work-more o xs rest e = ap (λ l. work_of (items_of l)) e ∙ work-put o (items_of rest)

pub some-work : (o : Op) → 0 < work_of (put_op o done)
some-work (Subtree' shape row d) = omega arith
some-work (Repeat' shape row sep k) = omega arith
some-work _ = omega arith

pub sub-work : (v : Vec Op Global) (d : Delimiter) (op : Op) (xs : List Op) → op ≡ Subtree v d → xs ≡ v.items →
    3 + work_of (items_of xs) ≡ work_of (put_op op done)
sub-work v d op xs e is =
    let a = ap (λ ys. work_of (items_of ys)) is in
    let b = ap work_of (put-Subtree v d done) in
    let c = ap (λ o. work_of (put_op o done)) e in
    omega (arith, a, b, c)

pub rep-work : (v : Vec Op Global) (sep : Option Separator) (k : RepeatKind) (op : Op) (xs : List Op) → op ≡ Repeat v sep k → xs ≡ v.items →
    65536 * (work_of (items_of xs) + 3) ≡ work_of (put_op op done)
rep-work v sep k op xs e is =
    let a = ap (λ ys. work_of (items_of ys)) is in
    let b = ap work_of (put-Repeat v sep k done) in
    let c = ap (λ o. work_of (put_op o done)) e in
    omega (arith, a, b, c)

times-suc : (n c : ℕ) → suc n * c ≡ n * c + c
times-suc n c = omega arith

-- one round fewer
pub fewer-rounds : (r c : ℕ) → r < most_rounds → (65536 - r) * c ≡ (65536 - (r + 1)) * c + c
fewer-rounds r c less =
    let e : 65536 - r ≡ suc (65536 - (r + 1)) = omega (arith, less) in
    ap (λ n. n * c) e ∙ times-suc (65536 - (r + 1)) c

-- ---- tasks that are put down

two-on-top : (ts us vs : List TranscribeTask) (t u : TranscribeTask) → us ≡ ts ++ (t ∷ []) → vs ≡ us ++ (u ∷ []) → reverse vs ≡ u ∷ t ∷ reverse ts
two-on-top ts us vs t u e f = ap reverse f ∙ on-top us u ∙ ap (λ xs. u ∷ xs) (ap reverse e ∙ on-top ts t)

module _ (mark : Span → Span) (bound : Map) where
  same-outcome : (ts us : List TranscribeTask) (ns ms : List ℕ) (a b : Building) → us ≡ ts → ms ≡ ns → b ≡ a → outcome mark bound ts ns a ≡ outcome mark bound us ms b
  same-outcome ts us ns ms a b e f g =
      sym (ap (λ x. outcome mark bound x ms b) e ∙ ap (λ x. outcome mark bound ts x b) f ∙ ap (outcome mark bound ts ns) g)

  pub group-steps : (ts us vs : List TranscribeTask) (ns ms : List ℕ) (inner : Bor (List Op)) (d : Delimiter) (s : Span) (old mid : Building) →
      us ≡ ts ++ (Close d.close_span ∷ []) → vs ≡ us ++ (items_task inner ∷ []) → ms ≡ ns → s ≡ mark d.open_span → mid ≡ opened old d.kind s →
      put_and (group_gives mark bound d (gives mark bound ns (items_of inner.now))) (suc (puts_out mark bound ns (items_of inner.now))) old
      (outcome mark bound (reverse ts) ns)
      ≡ outcome mark bound (reverse vs) ms mid
  group-steps ts us vs ns ms inner d s old mid e f same is put =
      put-group mark bound d (gives mark bound ns (items_of inner.now)) (puts_out mark bound ns (items_of inner.now)) old (outcome mark bound (reverse ts) ns)
      ∙ same-outcome (items_task inner ∷ Close d.close_span ∷ reverse ts) (reverse vs) ns ms (opened old d.kind (mark d.open_span)) mid
      (two-on-top ts us vs (Close d.close_span) (items_task inner) e f) same (put ∙ ap (opened old d.kind) is)

  pub group-bursts : (ts : List TranscribeTask) (ns : List ℕ) (inner : Bor (List Op)) (d : Delimiter) (old : Building) → count_of old ≡ most_tokens →
      most_tokens
      < reached
      (put_and (group_gives mark bound d (gives mark bound ns (items_of inner.now))) (suc (puts_out mark bound ns (items_of inner.now))) old (outcome mark bound ts ns))
  group-bursts ts ns inner d old full =
      let more = outcome mark bound (Close d.close_span ∷ ts) ns in
      let c =
      ap reached
      (put-group mark bound d (gives mark bound ns (items_of inner.now)) (puts_out mark bound ns (items_of inner.now)) old (outcome mark bound ts ns)) in
      let k = at-least mark bound (items_task inner ∷ Close d.close_span ∷ ts) ns (opened old d.kind (mark d.open_span)) in
      omega (arith, c, k, full)

  -- the first items, with those after them put down before
  pub items-steps : (ts us : List TranscribeTask) (ns ms : List ℕ) (ops rest : Bor (List Op)) (o : Op) (old : Building) → ops.now ≡ o ∷ rest.now → ms ≡ ns →
      ((b : Building) → outcome mark bound (items_task rest ∷ reverse ts) ns b ≡ outcome mark bound (reverse us) ms b) →
      outcome mark bound (items_task ops ∷ reverse ts) ns old
      ≡ put_and (first_gives mark bound ms (put_op o done)) (first_puts_out mark bound ms (put_op o done)) old (outcome mark bound (reverse us) ms)
  items-steps ts us ns ms ops rest o old is same after =
      items-first mark bound ns o ops.now rest.now old (outcome mark bound (reverse ts) ns) is
      ∙ put-same (first_gives mark bound ns (put_op o done)) (first_puts_out mark bound ns (put_op o done)) old _ (outcome mark bound (reverse us) ms) after
      ∙ ap
      (λ xs. put_and (first_gives mark bound xs (put_op o done)) (first_puts_out mark bound xs (put_op o done)) old (outcome mark bound (reverse us) ms))
      (sym same)

  -- nothing is put down where none are after them
  pub rest-none : (ts us : List TranscribeTask) (ns ms : List ℕ) (rest : Bor (List Op)) (b : Building) → rest.now ≡ [] → us ≡ ts → ms ≡ ns →
      outcome mark bound (items_task rest ∷ reverse ts) ns b ≡ outcome mark bound (reverse us) ms b
  rest-none ts us ns ms rest b none e same =
      no-items mark bound ns rest (reverse ts) b none ∙ same-outcome (reverse ts) (reverse us) ns ms b b (ap reverse e) same refl

  pub rest-planned : (ts us : List TranscribeTask) (ns ms : List ℕ) (rest : Bor (List Op)) (b : Building) → us ≡ ts ++ (items_task rest ∷ []) → ms ≡ ns →
      outcome mark bound (items_task rest ∷ reverse ts) ns b ≡ outcome mark bound (reverse us) ms b
  rest-planned ts us ns ms rest b e same =
      same-outcome (items_task rest ∷ reverse ts) (reverse us) ns ms b b (ap reverse e ∙ on-top ts (items_task rest)) same refl

  -- the rounds of a repetition are begun
  pub rounds-steps : (ts us vs : List TranscribeTask) (ns ms ks : List ℕ) (x : Iterations) (k : RepeatKind) (t : TranscribeTask) (stood : Bool) (old : Building) → x.number ≡ 1 →
      HasRounds mark bound ns (items_of x.body.now) x.count → stood ≡ nat_lt 0 x.count → stood ≡ true → t ≡ (if is_single k then Leave else Later x) →
      us ≡ ts ++ (t ∷ []) → vs ≡ us ++ (items_task x.body ∷ []) → ms ≡ ns → ks ≡ ms ++ (0 ∷ []) →
      put_and (repetition_gives mark bound ns (items_of x.body.now) (option_map (λ s. separator_of s.now) x.separator) k)
      (repetition_puts_out mark bound ns (items_of x.body.now) (option_map (λ s. separator_of s.now) x.separator) k) old (outcome mark bound (reverse ts) ns)
      ≡ outcome mark bound (reverse vs) ks old
  rounds-steps ts us vs ns ms ks x k t stood old one so_many is holds first e f same g =
      rounds-begin mark bound (reverse ts) ns x k old one so_many (sym is ∙ holds)
      ∙ same-outcome (items_task x.body ∷ (if is_single k then Leave else Later x) ∷ reverse ts) (reverse vs) (ns ++ (0 ∷ [])) ks old old
      (two-on-top ts us vs t (items_task x.body) e f ∙ ap (λ y. items_task x.body ∷ y ∷ reverse ts) first) (g ∙ ap (λ l. l ++ (0 ∷ [])) same) refl

  pub none-steps : (ts : List TranscribeTask) (ns : List ℕ) (x : Iterations) (n : ℕ) (k : RepeatKind) (stood answered : Bool) (old : Building) →
      HasRounds mark bound ns (items_of x.body.now) n → stood ≡ nat_lt 0 n → stood ≡ false → answered ≡ may_skip k →
      GoesOn answered old
      (put_and (repetition_gives mark bound ns (items_of x.body.now) (option_map (λ s. separator_of s.now) x.separator) k)
      (repetition_puts_out mark bound ns (items_of x.body.now) (option_map (λ s. separator_of s.now) x.separator) k) old (outcome mark bound ts ns))
      (outcome mark bound ts ns old)
  none-steps ts ns x n k stood answered old so_many is fails e =
      subst
      (λ a. GoesOn a old
      (put_and (repetition_gives mark bound ns (items_of x.body.now) (option_map (λ s. separator_of s.now) x.separator) k)
      (repetition_puts_out mark bound ns (items_of x.body.now) (option_map (λ s. separator_of s.now) x.separator) k) old (outcome mark bound ts ns))
      (outcome mark bound ts ns old))
      (sym e)
      (no-rounds mark bound ns (items_of x.body.now) (option_map (λ s. separator_of s.now) x.separator) k old (outcome mark bound ts ns)
      (sym (so_many 0 (omega arith)) ∙ sym is ∙ fails))

-- ---- what is said otherwise

pub same-steps : (r : Result Bool TtFault) (x y : Option Forest) (n m : ℕ) (b : Building) (more : Building → Outcome) (left : Building) (after : Outcome) → x ≡ y → n ≡ m →
    Steps r left (put_and x n b more) after → Steps r left (put_and y m b more) after
same-steps r x y n m b more left after e f h =
    subst (λ k. Steps r left (put_and y k b more) after) f (subst (λ o. Steps r left (put_and o n b more) after) e h)

pub same-bursts : (r : Result Bool TtFault) (x y : Option Forest) (n m : ℕ) (b : Building) (more : Building → Outcome) → x ≡ y → n ≡ m →
    IsBurstIn r (put_and x n b more) → IsBurstIn r (put_and y m b more)
same-bursts r x y n m b more e f h = subst (λ k. IsBurstIn r (put_and y k b more)) f (subst (λ o. IsBurstIn r (put_and o n b more)) e h)

pub fewer-still : (r : Result Bool TtFault) (ts us vs : List TranscribeTask) (all left rest : List Op) (o : Op) → left ≡ o ∷ rest →
    work_of (items_of left) ≤ work_of (items_of all) → tasks_of_all us ≤ tasks_of_all ts + (1 + work_of (items_of rest)) →
    OnOk r (tasks_of_all vs < tasks_of_all us + work_of (put_op o done)) →
    OnOk r (tasks_of_all vs ≤ tasks_of_all ts + work_of (items_of all))
fewer-still (Err x) ts us vs all left rest o e f g h = tt
fewer-still (Ok b) ts us vs all left rest o e f g h = let a = work-more o left rest e in omega (arith, a, f, g, h)

-- ---- one more round, with its separator put in

module _ (mark : Span → Span) (bound : Map) where
  pub next-ended : (ts us : List TranscribeTask) (ns ms : List ℕ) (x : Iterations) (stood : Bool) (old : Building) → ms ≡ around ns →
      stood ≡ nat_lt x.number x.count → stood ≡ false → us ≡ ts →
      outcome mark bound (Later x ∷ reverse ts) ns old ≡ outcome mark bound (reverse us) ms old
  next-ended ts us ns ms x stood old left is fails e =
      ap (λ l. rounds_and mark bound l x old (outcome mark bound (reverse ts) l)) (sym left)
      ∙ no-more mark bound ms x old (outcome mark bound (reverse ts) ms) (sym is ∙ fails)
      ∙ same-outcome mark bound (reverse ts) (reverse us) ms ms old old (ap reverse e) refl refl

  pub next-bursts : (ts : List TranscribeTask) (ns ms : List ℕ) (x : Iterations) (stood : Bool) (old : Building) → ms ≡ around ns →
      stood ≡ nat_lt x.number x.count → stood ≡ true → x.number < most_rounds →
      LacksRoom old (separator_leaves (option_map (λ s. separator_of s.now) x.separator)) →
      most_tokens < reached (outcome mark bound (Later x ∷ ts) ns old)
  next-bursts ts ns ms x stood old left is holds fits lacks =
      let k = round-least mark bound ts ms x old (sym is ∙ holds) fits in
      let c = ap (λ l. reached (rounds_and mark bound l x old (outcome mark bound ts l))) left in
      omega (arith, k, c, lacks)

  pub next-steps : (ts us vs : List TranscribeTask) (ns ms ks ls : List ℕ) (x y : Iterations) (stood : Bool) (old mid : Building) → ms ≡ around ns →
      stood ≡ nat_lt x.number x.count → stood ≡ true → x.number < most_rounds → y ≡ after_next mark bound x →
      mid ≡ extended old (separator_leaves (option_map (λ s. separator_of s.now) x.separator)) →
      us ≡ ts ++ (Later y ∷ []) → vs ≡ us ++ (items_task x.body ∷ []) → ks ≡ ms → ls ≡ ks ++ (x.number ∷ []) →
      outcome mark bound (Later x ∷ reverse ts) ns old ≡ outcome mark bound (reverse vs) ls mid
  next-steps ts us vs ns ms ks ls x y stood old mid left is holds fits next put e f same g =
      ap (λ l. rounds_and mark bound l x old (outcome mark bound (reverse ts) l)) (sym left)
      ∙ one-more-round mark bound (reverse ts) ms x old (sym is ∙ holds) fits
      ∙ same-outcome mark bound (items_task x.body ∷ Later (after_next mark bound x) ∷ reverse ts) (reverse vs) (ms ++ (x.number ∷ [])) ls
      (extended old (separator_leaves (option_map (λ s. separator_of s.now) x.separator))) mid
      (two-on-top ts us vs (Later y) (items_task x.body) e f ∙ ap (λ r. items_task x.body ∷ Later r ∷ reverse ts) next) (g ∙ ap (λ l. l ++ (x.number ∷ [])) same) put

pub none-there : {A : Type 0} (xs : List A) → length xs ≡ 0 → xs ≡ []
none-there [] e = refl
none-there (x ∷ xs) e = absurd (omega (arith, e))

-- ---- all tasks, one after the other

module _ (mark : Span → Span) (bound : Map) where
  pub popped : (ts us : List TranscribeTask) (t : TranscribeTask) (ns : List ℕ) (b : Building) (o : Outcome) → ts ≡ us ++ (t ∷ []) → o ≡ outcome mark bound (reverse ts) ns b →
      o ≡ outcome mark bound (t ∷ reverse us) ns b
  popped ts us t ns b o e h = h ∙ ap (λ l. outcome mark bound l ns b) (ap reverse e ∙ on-top us t)

  -- a step goes on from what was popped
  pub stepped : (ts us : List TranscribeTask) (t : TranscribeTask) (ns : List ℕ) (b : Building) (start : Outcome) (whole : Bool) (left : Building) (after : Outcome) →
      ts ≡ us ++ (t ∷ []) → start ≡ outcome mark bound (reverse ts) ns b → GoesOn whole left (outcome mark bound (t ∷ reverse us) ns b) after →
      GoesOn whole left start after
  stepped ts us t ns b start whole left after e h goes =
      subst (λ o. GoesOn whole left o after) (sym (popped ts us t ns b start e h)) goes

  -- no tokens are taken back
  pub never-less : (whole : Bool) (left : Building) (start : Outcome) (ts : List TranscribeTask) (ns : List ℕ) → GoesOn whole left start (outcome mark bound ts ns left) →
      count_of left ≤ reached start
  never-less true left start ts ns h = let k = at-least mark bound ts ns left in let e = ap reached h in omega (arith, k, e)
  never-less false left start ts ns h = let e = ap reached h in omega (arith, e)

  pub step-done : (whole : Bool) (left : Building) (start after : Outcome) → whole ≡ true → GoesOn whole left start after → start ≡ after
  step-done whole left start after is h = subst (λ b. GoesOn b left start after) is h

  pub step-failed : (whole : Bool) (left : Building) (start after : Outcome) → whole ≡ false → GoesOn whole left start after → start ≡ faulty (count_of left)
  step-failed whole left start after is h = subst (λ b. GoesOn b left start after) is h
