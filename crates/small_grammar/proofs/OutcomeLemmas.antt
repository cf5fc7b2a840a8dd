-- At each list an expression has only one outcome, and that is what it takes.
use Rattle.std.proofs.Common.{◌≡◌, ℕ, suc, zero, ◌≤◌, ◌<◌, Bool, true, ◌&&◌, ◌||◌, inl, inr, refl, sym, ap, ◌∙◌, subst, arith, Option, Some, None}
use Rattle.std.proofs.lemmas.Bool.{and_parts}
use Rattle.std.specs.Prelude.{option_and_then, unwrap_or, nat_lt}
use Rattle.tt_data.specs.Forest.{Forest, size}
use Rattle.fragment_grammar.specs.declared.fragment.PrefixEntryPoint.{PrefixEntryPoint}
use Rattle.fragment_grammar.specs.declared.fragment.PrefixEntryPoint.TheVariants.{Vis, Block, Stmt, Pat, PatTop, Ty, Expr, Path, Item, MetaItem}
use Rattle.small_grammar.specs.Answer.{entry_rule}
use Rattle.small_grammar.specs.Expressions.{Name, a_type, a_pattern, Expression, never, token, ◌⨾◌, ◌∣◌, many, maybe, rule, otherwise}
use Rattle.small_grammar.specs.Passing.{least}
use Rattle.small_grammar.specs.Rules.{is_guarded, rule-is, Asks, asks-further, asks-first, asks-second, asks-behind, says-guarded}
use Rattle.small_grammar.specs.SmallGrammar.{lifetime, arrow, arg, generics, seg, tpath, bound, type_rule, path, post, atom, operand, binop, expr, num, pat_rule, pat_top, meta_item, vis, says, takes}
use Rattle.small_grammar.proofs.TakingLemmas.{shorter, many_on, many_none}
use Rattle.small_grammar.specs.Outcomes.{Comes, never_fits, as_token, stopped, went_on, by_first, by_second, no_round, one_round, left_out, put_in, by_rule}

-- ---- the grammar's repetitions take a token in each round

abbrev pub is_finite : Expression → Bool
is_finite never = true
is_finite (token t) = true
is_finite (a ⨾ b) = is_finite a && is_finite b
is_finite (a ∣ b) = is_finite a && is_finite b
is_finite (many a) = nat_lt 0 (least a) && is_finite a
is_finite (maybe a) = is_finite a
is_finite (rule k) = true

says-finite : (k : Name) → is_finite (says k) ≡ true
unfolding lifetime arrow arg generics seg tpath bound type_rule path num pat_rule
says-finite a_type = refl
says-finite a_pattern = refl

entry-finite : (entry : PrefixEntryPoint) → is_finite (entry_rule entry) ≡ true
unfolding lifetime arrow arg generics seg tpath bound type_rule path post atom operand binop expr num pat_rule pat_top meta_item vis
entry-finite Vis = refl
entry-finite Block = refl
entry-finite Stmt = refl
entry-finite Pat = refl
entry-finite PatTop = refl
entry-finite Ty = refl
entry-finite Expr = refl
entry-finite Path = refl
entry-finite Item = refl
entry-finite MetaItem = refl

positive : (n : ℕ) → nat_lt 0 n ≡ true → 1 ≤ n
positive zero e = absurd cc
positive (suc n) e = omega arith

-- ---- an expression comes out in one way alone

pub comes-once : (e : Expression) (f : Forest) (o : Option Forest) → is_finite e ≡ true → Comes e f o → takes e f ≡ o
comes-once never f o fin (never_fits g) = refl
comes-once (token t) f o fin (as_token u g) = refl
comes-once (a ⨾ b) f o fin (stopped _ _ _ none) = ap (option_and_then (takes b)) (comes-once a f None (and_parts (is_finite a) (is_finite b) fin).0 none)
comes-once (a ⨾ b) f o fin (went_on _ _ _ g _ some more) =
    ap (option_and_then (takes b)) (comes-once a f (Some g) (and_parts (is_finite a) (is_finite b) fin).0 some) ∙ comes-once b g o (and_parts (is_finite a) (is_finite b) fin).1 more
comes-once (a ∣ b) f o fin (by_first _ _ _ g some) = ap (λ p. otherwise p (takes b) f) (comes-once a f (Some g) (and_parts (is_finite a) (is_finite b) fin).0 some)
comes-once (a ∣ b) f o fin (by_second _ _ _ _ none more) =
    ap (λ p. otherwise p (takes b) f) (comes-once a f None (and_parts (is_finite a) (is_finite b) fin).0 none) ∙ comes-once b f o (and_parts (is_finite a) (is_finite b) fin).1 more
comes-once (many a) f o fin (no_round _ _ none) = many_none a f (comes-once a f None (and_parts (nat_lt 0 (least a)) (is_finite a) fin).1 none)
comes-once (many a) f o fin (one_round _ _ g _ some more) =
    many_on a (positive (least a) (and_parts (nat_lt 0 (least a)) (is_finite a) fin).0) f g (comes-once a f (Some g) (and_parts (nat_lt 0 (least a)) (is_finite a) fin).1 some)
    ∙ comes-once (many a) g o fin more
comes-once (maybe a) f o fin (left_out _ _ none) = ap (λ p. Some (unwrap_or p f)) (comes-once a f None fin none)
comes-once (maybe a) f o fin (put_in _ _ g some) = ap (λ p. Some (unwrap_or p f)) (comes-once a f (Some g) fin some)
comes-once (rule k) f o fin (by_rule _ _ _ more) = rule-is k f ∙ comes-once (says k) f o (says-finite k) more

-- ---- and it does come out

module _ (n : ℕ) (below : (k : Name) (f : Forest) → size f < n → Comes (rule k) f (takes (rule k) f)) where
  then_comes : (a b : Expression) (f : Forest) (o : Option Forest) → takes a f ≡ o → Comes a f o →
      ((g : Forest) → takes a f ≡ Some g → Comes b g (takes b g)) → Comes (a ⨾ b) f (option_and_then (takes b) o)
  then_comes a b f None e none more = stopped a b f none
  then_comes a b f (Some g) e some more = went_on a b f g (takes b g) some (more g e)

  either_comes : (a b : Expression) (f : Forest) (o : Option Forest) → Comes a f o → Comes b f (takes b f) → Comes (a ∣ b) f (otherwise o (takes b) f)
  either_comes a b f None none more = by_second a b f (takes b f) none more
  either_comes a b f (Some g) some more = by_first a b f g some

  maybe_comes : (a : Expression) (f : Forest) (o : Option Forest) → Comes a f o → Comes (maybe a) f (Some (unwrap_or o f))
  maybe_comes a f None none = left_out a f none
  maybe_comes a f (Some g) some = put_in a f g some

  round_comes : (a : Expression) → 1 ≤ least a → (f : Forest) (o : Option Forest) → takes a f ≡ o → Comes a f o →
      ((g : Forest) → takes a f ≡ Some g → Comes (many a) g (takes (many a) g)) → Comes (many a) f (takes (many a) f)
  round_comes a one f None e none more = subst (Comes (many a) f) (sym (many_none a f e)) (no_round a f none)
  round_comes a one f (Some g) e some more =
      subst (Comes (many a) f) (sym (many_on a one f g e)) (one_round a f g (takes (many a) g) some (more g e))

  -- rounds, at most m of them
  many_comes : (a : Expression) → 1 ≤ least a → ((g : Forest) → Asks n (is_guarded a) g → Comes a g (takes a g)) →
      (m : ℕ) (f : Forest) → size f < m → Asks n (is_guarded a) f → Comes (many a) f (takes (many a) f)
  many_comes a one each zero f fits asks = absurd (omega (arith, fits))
  many_comes a one each (suc m) f fits asks =
      round_comes a one f (takes a f) refl (each f asks)
      (λ g e. many_comes a one each m g (let s = shorter a f g e in omega (arith, s, one, fits)) (asks-further n (is_guarded a) f g (let s = shorter a f g e in omega (arith, s)) asks))

  comes-from : (e : Expression) (f : Forest) → is_finite e ≡ true → Asks n (is_guarded e) f → Comes e f (takes e f)
  comes-from never f fin asks = never_fits f
  comes-from (token t) f fin asks = as_token t f
  comes-from (a ⨾ b) f fin asks =
      then_comes a b f (takes a f) refl (comes-from a f (and_parts (is_finite a) (is_finite b) fin).0 (asks-first n (is_guarded a) (nat_lt 0 (least a) || is_guarded b) f asks))
      (λ g e. comes-from b g (and_parts (is_finite a) (is_finite b) fin).1
      (asks-behind n (least a) (is_guarded b) f g (shorter a f g e) (asks-second n (is_guarded a) (nat_lt 0 (least a) || is_guarded b) f asks)))
  comes-from (a ∣ b) f fin asks =
      either_comes a b f (takes a f) (comes-from a f (and_parts (is_finite a) (is_finite b) fin).0 (asks-first n (is_guarded a) (is_guarded b) f asks))
      (comes-from b f (and_parts (is_finite a) (is_finite b) fin).1 (asks-second n (is_guarded a) (is_guarded b) f asks))
  comes-from (many a) f fin asks =
      many_comes a (positive (least a) (and_parts (nat_lt 0 (least a)) (is_finite a) fin).0) (λ g. comes-from a g (and_parts (nat_lt 0 (least a)) (is_finite a) fin).1)
      (suc (size f)) f (omega arith) asks
  comes-from (maybe a) f fin asks = maybe_comes a f (takes a f) (comes-from a f fin asks)
  comes-from (rule k) f fin (inl (guarded, fits)) = absurd cc
  comes-from (rule k) f fin (inr fewer) = below k f fewer

rules-come : (n : ℕ) (k : Name) (f : Forest) → size f < n → Comes (rule k) f (takes (rule k) f)
rules-come zero k f fits = absurd (omega (arith, fits))
rules-come (suc n) k f fits =
    subst (Comes (rule k) f) (sym (rule-is k f))
    (by_rule k f (takes (says k) f) (comes-from n (rules-come n) (says k) f (says-finite k) (inl (says-guarded k, omega (arith, fits)))))

-- what an expression takes is what it comes to
pub comes : (e : Expression) (f : Forest) → is_finite e ≡ true → Comes e f (takes e f)
comes e f fin = comes-from (suc (size f)) (rules-come (suc (size f))) e f fin (inr (omega arith))

-- so for each entry point and list there is one outcome, and it is what the grammar takes
pub entry-comes : (entry : PrefixEntryPoint) (f : Forest) → Comes (entry_rule entry) f (takes (entry_rule entry) f)
entry-comes entry f = comes (entry_rule entry) f (entry-finite entry)

pub entry-once : (entry : PrefixEntryPoint) (f : Forest) (o : Option Forest) → Comes (entry_rule entry) f o → takes (entry_rule entry) f ≡ o
entry-once entry f o out = comes-once (entry_rule entry) f o (entry-finite entry) out
