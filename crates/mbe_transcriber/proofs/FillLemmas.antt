-- What transcribing appends, op by op.
use Rattle.std.proofs.Common.{◌≡◌, refl, sym, ap, ◌∙◌, ℕ, zero, suc, ◌+◌, ◌-◌, ◌≤◌, Bool, true, false, List, [], ◌∷◌, ◌++◌, Option, Some, None, option_map, arith}
use Rattle.std.specs.Borrow.{Bor}
use Rattle.std.specs.Prelude.{⊤, Result, Ok, Err, OnOk}
use Rattle.tt_data.specs.fault.TtFault.{TtFault}
use Rattle.std.specs.declared.vec.Vec.{Vec}
use Rattle.std.specs.declared.alloc.Global.{Global}
use Rattle.tt.specs.Building.{Building, extended}
use Rattle.tt_data.specs.Flat.{joined-empty}
use Rattle.tt_data.specs.Forest.{Forest, empty, group, joined, size}
use Rattle.tt_data.proofs.ForestLemmas.{size-joined}
use Rattle.tt_data.specs.declared.delimiter.Delimiter.{Delimiter}
use Rattle.tt_data.specs.declared.span.Span.{Span}
use Rattle.mbe_rules.specs.Items as spec
use Rattle.mbe_rules.specs.Items.{Items, done, item, group_of, repetition}
use Rattle.mbe_rules.specs.Ops.{put_op, items_of, separator_of}
use Rattle.mbe_rules.specs.declared.parser.Op.{Op, Repeat, Subtree, Repeat', Subtree'}
use Rattle.mbe_rules.specs.declared.parser.RepeatKind.{RepeatKind}
use Rattle.mbe_rules.specs.declared.parser.RepeatKind.TheVariants.{ZeroOrMore, OneOrMore, ZeroOrOne}
use Rattle.mbe_rules.specs.declared.parser.Separator.{Separator}
use Rattle.mbe_rules.proofs.OpsLemmas.{put-Repeat, put-Subtree}
use Rattle.mbe_matcher.specs.Bindings.{Map}
use Rattle.mbe_transcriber.specs.Filling.{both, rounds_from, rounds_of, separator_leaves}
use Rattle.mbe_transcriber.specs.Limits.{most_rounds}
use Rattle.mbe_transcriber.specs.Given.{is_plain, plain_gives, gives, puts_out, first_gives, first_puts_out, group_gives, repetition_gives, repetition_puts_out, stands_in}
use Rattle.mbe_transcriber.specs.Output.{and_then, size_of, output_from, output_of_rounds}

pub unmoved : (b : Building) → extended b empty ≡ b
unmoved b = ap (λ x. record b { here = x }) (joined-empty b.here)

-- ---- what is put out

-- a number of tokens is that of trees, where they are no fault
abbrev pub IsSized : Option Forest → ℕ → Type 0
IsSized None n = ⊤
IsSized (Some f) n = n ≡ size f

pub sized-self : (x : Option Forest) → IsSized x (size_of x)
sized-self None = tt
sized-self (Some f) = refl

sized-both : (x y : Option Forest) (n m : ℕ) → IsSized x n → IsSized y m → IsSized (both joined x y) (and_then x n m)
sized-both None y n m s t = tt
sized-both (Some f) None n m s t = tt
sized-both (Some f) (Some g) n m s t = let k = size-joined f g in omega (arith, s, t, k)

sized-after : (sep : Forest) (x y : Option Forest) (n m : ℕ) → IsSized x n → IsSized y m →
    IsSized (both (λ f rest. joined sep (joined f rest)) x y) (size sep + and_then x n m)
sized-after sep None y n m s t = tt
sized-after sep (Some f) None n m s t = tt
sized-after sep (Some f) (Some g) n m s t =
    let k = size-joined f g in let l = size-joined sep (joined f g) in omega (arith, s, t, k, l)

sized-group : (d : Delimiter) (x y : Option Forest) (n m : ℕ) → IsSized x n → IsSized y m → IsSized (both (group d) x y) (suc (and_then x n m))
sized-group d None y n m s t = tt
sized-group d (Some f) None n m s t = tt
sized-group d (Some f) (Some g) n m s t = omega (arith, s, t)

sized-alone : (d : Delimiter) (x : Option Forest) (n : ℕ) → IsSized x n → IsSized (option_map (λ f. group d f empty) x) (suc n)
sized-alone d None n s = tt
sized-alone d (Some f) n s = omega (arith, s)

module _ (stands_at : ℕ → Bool) (round_at : ℕ → Option Forest) (output_at : ℕ → ℕ) (sized : (r : ℕ) → IsSized (round_at r) (output_at r)) (sep : Forest) where
  pub sized-from : (most r : ℕ) → IsSized (rounds_from stands_at round_at sep most r) (output_from stands_at round_at output_at (size sep) most r)
  sized-from zero r = go (stands_at r)
    where
      go : (b : Bool) → IsSized (elim b [ true ↦ None | false ↦ Some empty ]) 0
      go true = tt
      go false = refl
  sized-from (suc most) r = go (stands_at r) (sized-from most (suc r))
    where
      go : (b : Bool) → IsSized (rounds_from stands_at round_at sep most (suc r)) (output_from stands_at round_at output_at (size sep) most (suc r)) →
          IsSized
          (elim b [ true ↦ both (λ f rest. joined sep (joined f rest)) (round_at r) (rounds_from stands_at round_at sep most (suc r)) | false ↦ Some empty ])
          (elim b [ true ↦ size sep + and_then (round_at r) (output_at r) (output_from stands_at round_at output_at (size sep) most (suc r)) | false ↦ 0 ])
      go true h = sized-after sep (round_at r) _ (output_at r) _ (sized r) h
      go false h = refl

  sized-some : (most : ℕ) (x : Option Forest) (b : Bool) → IsSized x 0 →
      IsSized
      (elim b [ true ↦ both joined (round_at 0) (rounds_from stands_at round_at sep (most - 1) 1) | false ↦ x ])
      (elim b [ true ↦ and_then (round_at 0) (output_at 0) (output_from stands_at round_at output_at (size sep) (most - 1) 1) | false ↦ 0 ])
  sized-some most x true s = sized-both (round_at 0) _ (output_at 0) _ (sized 0) (sized-from (most - 1) 1)
  sized-some most x false s = s

  pub sized-rounds : (most : ℕ) (k : RepeatKind) → IsSized (rounds_of stands_at round_at sep most k) (output_of_rounds stands_at round_at output_at (size sep) most k)
  sized-rounds most ZeroOrOne = go (stands_at 0)
    where
      go : (b : Bool) → IsSized (elim b [ true ↦ round_at 0 | false ↦ Some empty ]) (elim b [ true ↦ output_at 0 | false ↦ 0 ])
      go true = sized 0
      go false = refl
  sized-rounds most ZeroOrMore = sized-some most (Some empty) (stands_at 0) refl
  sized-rounds most OneOrMore = sized-some most None (stands_at 0) tt

module _ (mark : Span → Span) (bound : Map) where
  pub sized-gives : (ns : List ℕ) (i : Items) → IsSized (gives mark bound ns i) (puts_out mark bound ns i)
  sized-gives ns done = refl
  sized-gives ns (item i rest) = sized-both _ _ _ _ (sized-self _) (sized-gives ns rest)
  sized-gives ns (group_of d inner rest) = sized-group _ _ _ _ _ (sized-gives ns inner) (sized-gives ns rest)
  sized-gives ns (repetition body sep op rest) =
      sized-both _ _ _ _
      (sized-rounds (stands_in mark bound ns body) (λ r. gives mark bound (ns ++ (r ∷ [])) body) (λ r. puts_out mark bound (ns ++ (r ∷ [])) body)
      (λ r. sized-gives (ns ++ (r ∷ [])) body) (separator_leaves sep) most_rounds op)
      (sized-gives ns rest)

  pub sized-first : (ns : List ℕ) (i : Items) → IsSized (first_gives mark bound ns i) (first_puts_out mark bound ns i)
  sized-first ns done = refl
  sized-first ns (item i rest) = sized-self _
  sized-first ns (group_of d inner rest) = sized-alone _ _ _ (sized-gives ns inner)
  sized-first ns (repetition body sep op rest) =
      sized-rounds (stands_in mark bound ns body) (λ r. gives mark bound (ns ++ (r ∷ [])) body) (λ r. puts_out mark bound (ns ++ (r ∷ [])) body)
      (λ r. sized-gives (ns ++ (r ∷ [])) body) (separator_leaves sep) most_rounds op

  -- ---- an item before others

  grouped : (d : Delimiter) (x y : Option Forest) → both (group d) x y ≡ both joined (option_map (λ f. group d f empty) x) y
  grouped d None y = refl
  grouped d (Some f) None = refl
  grouped d (Some f) (Some g) = refl

  grouped-out : (d : Delimiter) (x : Option Forest) (n m : ℕ) → suc (and_then x n m) ≡ and_then (option_map (λ f. group d f empty) x) (suc n) m
  grouped-out d None n m = refl
  grouped-out d (Some f) n m = omega arith

  pub gives-put : (ns : List ℕ) (o : Op) (rest : Items) →
      gives mark bound ns (put_op o rest) ≡ both joined (first_gives mark bound ns (put_op o done)) (gives mark bound ns rest)
  gives-put ns (Subtree' shape row d) rest = grouped _ _ _
  gives-put ns (Repeat' shape row sep k) rest = refl
  gives-put ns _ rest = refl

  pub puts-put : (ns : List ℕ) (o : Op) (rest : Items) →
      puts_out mark bound ns (put_op o rest)
      ≡ and_then (first_gives mark bound ns (put_op o done)) (first_puts_out mark bound ns (put_op o done)) (puts_out mark bound ns rest)
  puts-put ns (Subtree' shape row d) rest = grouped-out _ _ _ _
  puts-put ns (Repeat' shape row sep k) rest = refl
  puts-put ns _ rest = refl

-- ---- items that hold items

module _ (mark : Span → Span) (bound : Map) (ns : List ℕ) where
  pub sub-gives : (v : Vec Op Global) (d : Delimiter) (op : Op) (xs : List Op) → op ≡ Subtree v d → xs ≡ v.items →
      group_gives mark bound d (gives mark bound ns (items_of xs)) ≡ first_gives mark bound ns (put_op op done)
  sub-gives v d op xs e is =
      ap (λ ys. group_gives mark bound d (gives mark bound ns (items_of ys))) is ∙ ap (first_gives mark bound ns) (sym (put-Subtree v d done))
      ∙ ap (λ o. first_gives mark bound ns (put_op o done)) (sym e)

  pub sub-puts : (v : Vec Op Global) (d : Delimiter) (op : Op) (xs : List Op) → op ≡ Subtree v d → xs ≡ v.items →
      suc (puts_out mark bound ns (items_of xs)) ≡ first_puts_out mark bound ns (put_op op done)
  sub-puts v d op xs e is =
      ap (λ ys. suc (puts_out mark bound ns (items_of ys))) is ∙ ap (first_puts_out mark bound ns) (sym (put-Subtree v d done))
      ∙ ap (λ o. first_puts_out mark bound ns (put_op o done)) (sym e)

  pub rep-gives : (v : Vec Op Global) (sep : Option Separator) (k : RepeatKind) (op : Op) (xs : List Op) (t : Option spec.Separator) →
      op ≡ Repeat v sep k → xs ≡ v.items → t ≡ option_map separator_of sep →
      repetition_gives mark bound ns (items_of xs) t k ≡ first_gives mark bound ns (put_op op done)
  rep-gives v sep k op xs t e is u =
      ap (λ ys. repetition_gives mark bound ns (items_of ys) t k) is ∙ ap (λ x. repetition_gives mark bound ns (items_of v.items) x k) u
      ∙ ap (first_gives mark bound ns) (sym (put-Repeat v sep k done)) ∙ ap (λ o. first_gives mark bound ns (put_op o done)) (sym e)

  pub rep-puts : (v : Vec Op Global) (sep : Option Separator) (k : RepeatKind) (op : Op) (xs : List Op) (t : Option spec.Separator) →
      op ≡ Repeat v sep k → xs ≡ v.items → t ≡ option_map separator_of sep →
      repetition_puts_out mark bound ns (items_of xs) t k ≡ first_puts_out mark bound ns (put_op op done)
  rep-puts v sep k op xs t e is u =
      ap (λ ys. repetition_puts_out mark bound ns (items_of ys) t k) is ∙ ap (λ x. repetition_puts_out mark bound ns (items_of v.items) x k) u
      ∙ ap (first_puts_out mark bound ns) (sym (put-Repeat v sep k done)) ∙ ap (λ o. first_puts_out mark bound ns (put_op o done)) (sym e)

-- a borrowed separator is the separator
pub as-ref : (r : Option (Bor Separator)) (s : Option Separator) → option_map (λ b. b.now) r ≡ s →
    option_map (λ b. separator_of b.now) r ≡ option_map separator_of s
as-ref None s e = ap (option_map separator_of) e
as-ref (Some b) s e = ap (option_map separator_of) e

-- ---- a repetition

-- what no round gives
abbrev pub when_none : RepeatKind → Option Forest
when_none OneOrMore = None
when_none _ = Some empty

-- what a first round and those after it give, and put out
abbrev pub with_later : RepeatKind → Option Forest → Option Forest → Option Forest
with_later ZeroOrOne x y = x
with_later ZeroOrMore x y = both joined x y
with_later OneOrMore x y = both joined x y

abbrev pub out_later : RepeatKind → Option Forest → (n m : ℕ) → ℕ
out_later ZeroOrOne x n m = n
out_later ZeroOrMore x n m = and_then x n m
out_later OneOrMore x n m = and_then x n m

module _ (stands_at : ℕ → Bool) (round_at : ℕ → Option Forest) (output_at : ℕ → ℕ) (sep : Forest) (most : ℕ) where
  pub no-round : (k : RepeatKind) → stands_at 0 ≡ false → rounds_of stands_at round_at sep most k ≡ when_none k
  no-round ZeroOrOne e = ap (λ b. elim b [ true ↦ round_at 0 | false ↦ Some empty ]) e
  no-round ZeroOrMore e = ap (λ b. elim b [ true ↦ both joined (round_at 0) (rounds_from stands_at round_at sep (most - 1) 1) | false ↦ Some empty ]) e
  no-round OneOrMore e = ap (λ b. elim b [ true ↦ both joined (round_at 0) (rounds_from stands_at round_at sep (most - 1) 1) | false ↦ None ]) e

  pub none-out : (k : RepeatKind) → stands_at 0 ≡ false → output_of_rounds stands_at round_at output_at (size sep) most k ≡ 0
  none-out ZeroOrOne e = ap (λ b. elim b [ true ↦ output_at 0 | false ↦ 0 ]) e
  none-out ZeroOrMore e =
      ap (λ b. elim b [ true ↦ and_then (round_at 0) (output_at 0) (output_from stands_at round_at output_at (size sep) (most - 1) 1) | false ↦ 0 ]) e
  none-out OneOrMore e =
      ap (λ b. elim b [ true ↦ and_then (round_at 0) (output_at 0) (output_from stands_at round_at output_at (size sep) (most - 1) 1) | false ↦ 0 ]) e

  pub first-round : (k : RepeatKind) → stands_at 0 ≡ true →
      rounds_of stands_at round_at sep most k ≡ with_later k (round_at 0) (rounds_from stands_at round_at sep (most - 1) 1)
  first-round ZeroOrOne e = ap (λ b. elim b [ true ↦ round_at 0 | false ↦ Some empty ]) e
  first-round ZeroOrMore e = ap (λ b. elim b [ true ↦ both joined (round_at 0) (rounds_from stands_at round_at sep (most - 1) 1) | false ↦ Some empty ]) e
  first-round OneOrMore e = ap (λ b. elim b [ true ↦ both joined (round_at 0) (rounds_from stands_at round_at sep (most - 1) 1) | false ↦ None ]) e

  pub first-out : (k : RepeatKind) → stands_at 0 ≡ true →
      output_of_rounds stands_at round_at output_at (size sep) most k
      ≡ out_later k (round_at 0) (output_at 0) (output_from stands_at round_at output_at (size sep) (most - 1) 1)
  first-out ZeroOrOne e = ap (λ b. elim b [ true ↦ output_at 0 | false ↦ 0 ]) e
  first-out ZeroOrMore e =
      ap (λ b. elim b [ true ↦ and_then (round_at 0) (output_at 0) (output_from stands_at round_at output_at (size sep) (most - 1) 1) | false ↦ 0 ]) e
  first-out OneOrMore e =
      ap (λ b. elim b [ true ↦ and_then (round_at 0) (output_at 0) (output_from stands_at round_at output_at (size sep) (most - 1) 1) | false ↦ 0 ]) e

-- rounds that stand alike give the same
module _ (stands_at stands_at' : ℕ → Bool) (round_at : ℕ → Option Forest) where
  pub same-from : (sep : Forest) (most r : ℕ) → ((k : ℕ) → k ≤ most + r → stands_at k ≡ stands_at' k) →
      rounds_from stands_at round_at sep most r ≡ rounds_from stands_at' round_at sep most r
  same-from sep zero r h = ap (λ b. elim b [ true ↦ None | false ↦ Some empty ]) (h r (omega arith))
  same-from sep (suc most) r h =
      ap
      (λ b. elim b [ true ↦ both (λ f rest. joined sep (joined f rest)) (round_at r) (rounds_from stands_at round_at sep most (suc r)) | false ↦ Some empty ])
      (h r (omega arith))
      ∙ ap (λ x. elim (stands_at' r) [ true ↦ both (λ f rest. joined sep (joined f rest)) (round_at r) x | false ↦ Some empty ])
      (same-from sep most (suc r) (λ k l. h k (omega (arith, l))))

  pub same-out : (output_at : ℕ → ℕ) (separator most r : ℕ) → ((k : ℕ) → k ≤ most + r → stands_at k ≡ stands_at' k) →
      output_from stands_at round_at output_at separator most r ≡ output_from stands_at' round_at output_at separator most r
  same-out output_at separator zero r h = refl
  same-out output_at separator (suc most) r h =
      ap
      (λ b. elim b [ true ↦ separator + and_then (round_at r) (output_at r) (output_from stands_at round_at output_at separator most (suc r)) | false ↦ 0 ])
      (h r (omega arith))
      ∙ ap (λ n. elim (stands_at' r) [ true ↦ separator + and_then (round_at r) (output_at r) n | false ↦ 0 ])
      (same-out output_at separator most (suc r) (λ k l. h k (omega (arith, l))))

-- an item that holds no others gives what it puts in
pub plain-gives : (mark : Span → Span) (bound : Map) (ns : List ℕ) (i : Items) → is_plain i ≡ true → plain_gives mark bound ns i ≡ first_gives mark bound ns i
plain-gives mark bound ns (item x rest) e = refl
plain-gives mark bound ns done e = absurd (cc e)
plain-gives mark bound ns (group_of d inner rest) e = absurd (cc e)
plain-gives mark bound ns (repetition body sep op rest) e = absurd (cc e)

pub plain-puts : (mark : Span → Span) (bound : Map) (ns : List ℕ) (i : Items) → is_plain i ≡ true → size_of (plain_gives mark bound ns i) ≡ first_puts_out mark bound ns i
plain-puts mark bound ns (item x rest) e = refl
plain-puts mark bound ns done e = absurd (cc e)
plain-puts mark bound ns (group_of d inner rest) e = absurd (cc e)
plain-puts mark bound ns (repetition body sep op rest) e = absurd (cc e)

-- what holds at all holds where it is answered
pub on-ok : {A : Type 0} {X : Type 0} (r : Result A TtFault) → X → OnOk r X
on-ok (Ok a) x = x
on-ok (Err e) x = tt
