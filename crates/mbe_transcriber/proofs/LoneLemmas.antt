-- Iterations whose ops are one metavariable give its values, one after another.
use Rattle.std.proofs.Common.{◌≡◌, refl, sym, ap, subst, ◌∙◌, ℕ, ◌+◌, ◌<◌, ◌≤◌, nat_lt, Bool, true, false, if◌then◌else◌, List, [], ◌∷◌, ◌++◌, length, Option, Some, None, option_map, option_and_then, arith}
use Rattle.std.specs.Prelude.{◌==◌, Result, Ok, Err}
use Rattle.tt.specs.Building.{Building, extended, count_of, most_tokens}
use Rattle.tt_data.specs.Flat.{joined-empty}
use Rattle.tt_data.specs.Forest.{Forest, empty, joined, size}
use Rattle.tt_data.specs.declared.span.Span.{Span}
use Rattle.tt_data.specs.fault.TtFault.{TtFault}
use Rattle.mbe_rules.specs.Items.{dollar, variable, Items, done, item}
use Rattle.mbe_rules.specs.Ops.{items_of, separator_of}
use Rattle.mbe_rules.specs.declared.parser.MetaVarKind.{MetaVarKind}
use Rattle.mbe_rules.specs.declared.parser.Op.{Op, Var}
use Rattle.mbe_rules.specs.declared.parser.RepeatKind.{RepeatKind}
use Rattle.mbe_matcher.specs.Bindings.{Binding, fragment, rounds, skipped, Values, value_at, Map, binding_of}
use Rattle.mbe_transcriber.specs.Filling.{both, fragment_in, separator_leaves, stands, Use, has_value, has_none, use_in, use_of_member, value_in, variable_in}
use Rattle.mbe_transcriber.specs.Limits.{most_rounds}
use Rattle.mbe_transcriber.specs.Given.{FailsAfter, Fills, HasRounds, HasValues, KeepsAtFault, gives, is_single, puts_out, repetition_gives, repetition_puts_out}
use Rattle.mbe_transcriber.specs.Markers.{is_name}
use Rattle.mbe_transcriber.specs.Output.{and_then, size_of}
use Rattle.mbe_transcriber.specs.Tasks.{Outcome, reached, IsFaulty, put_and, rounds_and, outcome, GoesOn}
use Rattle.mbe_matcher.specs.Bound.{values_of}
use Rattle.mbe_matcher.specs.declared.bindings.Binding as held
use Rattle.mbe_transcriber.specs.declared.repetition.Iterations.{Iterations}
use Rattle.mbe_transcriber.specs.declared.transcriber.TranscribeTask.{TranscribeTask}
use Rattle.mbe_transcriber.specs.declared.transcriber.TranscribeTask.TheVariants.{Items as items_task, Leave, Later}
use Rattle.mbe_transcriber.proofs.FillLemmas.{IsSized, sized-gives}
use Rattle.tt.proofs.Limits.{count-extended}
use Rattle.mbe_transcriber.proofs.FillTaskLemmas.{after_next, around-last, at-least, no-more, one-more-round, plain-steps, round-least, rounds-begin, too-many}
use Rattle.mbe_transcriber.proofs.UsesLemmas.{member-use}

-- ---- a variable

then_use : (ns ms : List ℕ) (v : Binding) (u : Use) → ((c : Binding) → value_in ns c ≡ Some v → use_in ms (Some c) ≡ u) → (o : Option Binding) →
    option_and_then (value_in ns) o ≡ Some v → use_in ms o ≡ u
then_use ns ms v u h None e = absurd (cc e)
then_use ns ms v u h (Some c) e = h c e

then_value : (ns ms : List ℕ) (v : Binding) (x : Option Binding) → ((c : Binding) → value_in ns c ≡ Some v → value_in ms c ≡ x) → (o : Option Binding) →
    option_and_then (value_in ns) o ≡ Some v → option_and_then (value_in ms) o ≡ x
then_value ns ms v x h None e = absurd (cc e)
then_value ns ms v x h (Some c) e = h c e

use-inner : (ns : List ℕ) (r : ℕ) (b : Binding) (vs : Values) → value_in ns b ≡ Some (rounds vs) → use_in (ns ++ (r ∷ [])) (Some b) ≡ use_of_member (value_at r vs)
use-inner [] r b vs e = let i : b ≡ rounds vs = cc in rw i refl
use-inner (n ∷ ns) r (fragment k f) vs e = absurd (cc e)
use-inner (n ∷ ns) r skipped vs e = absurd (cc e)
use-inner (n ∷ []) r (rounds us) vs e = then_use [] (r ∷ []) (rounds vs) (use_of_member (value_at r vs)) (λ c h. use-inner [] r c vs h) (value_at n us) e
use-inner (n ∷ m ∷ ns) r (rounds us) vs e =
    then_use (m ∷ ns) ((m ∷ ns) ++ (r ∷ [])) (rounds vs) (use_of_member (value_at r vs)) (λ c h. use-inner (m ∷ ns) r c vs h) (value_at n us) e

itself : (o : Option Binding) → option_and_then (value_in []) o ≡ o
itself None = refl
itself (Some c) = refl

value-inner : (ns : List ℕ) (r : ℕ) (b : Binding) (vs : Values) → value_in ns b ≡ Some (rounds vs) → value_in (ns ++ (r ∷ [])) b ≡ value_at r vs
value-inner [] r b vs e = let i : b ≡ rounds vs = cc in rw i (itself (value_at r vs))
value-inner (n ∷ ns) r (fragment k f) vs e = absurd (cc e)
value-inner (n ∷ ns) r skipped vs e = absurd (cc e)
value-inner (n ∷ ns) r (rounds us) vs e = then_value ns (ns ++ (r ∷ [])) (rounds vs) (value_at r vs) (λ c h. value-inner ns r c vs h) (value_at n us) e

alone : (x : Option Forest) → both joined x (Some empty) ≡ x
alone None = refl
alone (Some f) = ap Some (joined-empty f)

alone-out : (x : Option Forest) → and_then x (size_of x) 0 ≡ size_of x
alone-out None = refl
alone-out (Some f) = omega arith

stands-by : (u : Use) (b : Bool) → u ≡ (if b then has_value else has_none) → b ≡ stands (u ∷ [])
stands-by u true e = rw e refl
stands-by u false e = rw e refl

has-values : (mark : Span → Span) (bound : Map) (ns name : List ℕ) (k : Option MetaVarKind) (id : Span) (o : Option Binding) (xs : List held.Binding) → binding_of name bound ≡ o →
    option_and_then (value_in ns) o ≡ Some (rounds (values_of xs)) → HasValues mark bound ns (item (dollar (variable name k) id) done) (mark id) (length xs) (values_of xs)
has-values mark bound ns name k id None xs e h = absurd (cc h)
has-values mark bound ns name k id (Some b) xs e h = (
  λ r fits. stands-by (use_in (ns ++ (r ∷ [])) (binding_of name bound)) (nat_lt r (length xs))
      (ap (use_in (ns ++ (r ∷ []))) e ∙ use-inner ns r b (values_of xs) h ∙ sym (member-use xs r)),
  λ r. (
    alone _ ∙ given r,
    alone-out (variable_in is_name most_rounds mark bound (ns ++ (r ∷ [])) name (mark id) (binding_of name bound)) ∙ ap size_of (given r),
  ),
)
  where
    given : (r : ℕ) →
        variable_in is_name most_rounds mark bound (ns ++ (r ∷ [])) name (mark id) (binding_of name bound)
        ≡ fragment_in is_name most_rounds mark bound (mark id) (value_at r (values_of xs))
    given r =
        ap (variable_in is_name most_rounds mark bound (ns ++ (r ∷ [])) name (mark id)) e
        ∙ ap (fragment_in is_name most_rounds mark bound (mark id)) (value-inner ns r b (values_of xs) h)

pub none-by : {A : Type 0} (xs : List A) → (length xs == 0) ≡ true → xs ≡ []
none-by [] e = refl
none-by (x ∷ xs) e = absurd (grind (arith, e))

pub lone : (mark : Span → Span) (bound : Map) (ns : List ℕ) (body rest : List Op) (op : Op) (name : List ℕ) (k : Option MetaVarKind) (id : Span) (xs : List held.Binding) →
    body ≡ op ∷ rest → (length rest == 0) ≡ true → op ≡ Var name k id → option_and_then (value_in ns) (binding_of name bound) ≡ Some (rounds (values_of xs)) →
    HasValues mark bound ns (items_of body) (mark id) (length xs) (values_of xs)
lone mark bound ns body rest op name k id xs is empty_rest var h =
    subst (λ l. HasValues mark bound ns (items_of l) (mark id) (length xs) (values_of xs)) (sym (is ∙ ap (λ o. o ∷ rest) var ∙ ap (λ ys. Var name k id ∷ ys) (none-by rest empty_rest)))
    (has-values mark bound ns name k id (binding_of name bound) xs refl h)

-- ---- the rounds, one after the other

some-least : (x : Option Forest) (n : ℕ) (b : Building) (more : Building → Outcome) → ((t : Building) → count_of t ≤ reached (more t)) → IsSized x n →
    count_of b + size_of x ≤ reached (put_and x n b more)
some-least None n b more h s = omega arith
some-least (Some f) n b more h s = omega (arith, h (extended b f), s, count-extended b f)

-- what may be put in with a fault puts in nothing then
pub none-put : (r : Result Bool TtFault) (old new : Building) (x : Option Forest) → Fills r old new x → KeepsAtFault r old new → FailsAfter r old new (size_of x)
none-put (Err e) old new x h k = λ is. absurd (cc is)
none-put (Ok true) old new x h k = λ is. absurd (cc is)
none-put (Ok false) old new None h k = λ is. let same = ap count_of (k is) in omega (arith, same)
none-put (Ok false) old new (Some f) h k = absurd (cc h)

-- what is put in without fault has none
pub never-fails : (r : Result Bool TtFault) (old new first last : Building) (f : Forest) → Fills r old new (Some f) → KeepsAtFault r first last
never-fails (Err e) old new first last f h = λ is. absurd (cc is)
never-fails (Ok true) old new first last f h = λ is. absurd (cc is)
never-fails (Ok false) old new first last f h = absurd (cc h)

module _ (mark : Span → Span) (bound : Map) (ts : List TranscribeTask) (ns : List ℕ) (body : Items) where
  value-least : (b : Building) → count_of b + size_of (gives mark bound ns body) ≤ reached (put_and (gives mark bound ns body) (puts_out mark bound ns body) b (outcome mark bound ts ns))
  value-least b =
      some-least (gives mark bound ns body) (puts_out mark bound ns body) b (outcome mark bound ts ns) (at-least mark bound ts ns) (sized-gives mark bound ns body)

  value-steps : (ok : Bool) (old new : Building) (x : Option Forest) → x ≡ gives mark bound ns body → size_of x ≡ puts_out mark bound ns body → Fills (Ok ok) old new x →
      KeepsAtFault (Ok ok) old new →
      GoesOn ok new (put_and (gives mark bound ns body) (puts_out mark bound ns body) old (outcome mark bound ts ns)) (outcome mark bound ts ns new)
  value-steps ok old new x e m h k =
      subst (λ n. GoesOn ok new (put_and (gives mark bound ns body) n old (outcome mark bound ts ns)) (outcome mark bound ts ns new)) m
      (subst (λ g. GoesOn ok new (put_and g (size_of x) old (outcome mark bound ts ns)) (outcome mark bound ts ns new)) e
      (plain-steps (Ok ok) old new x (size_of x) (outcome mark bound ts ns) h (none-put (Ok ok) old new x h k)))

module _ (mark : Span → Span) (bound : Map) (ns : List ℕ) (ts : List TranscribeTask) (x : Iterations) (place : Span) (vs : Values) (all : HasValues mark bound ns (items_of x.body.now) place x.count vs)
    (start : Outcome) (b : Building) (e : start ≡ rounds_and mark bound ns x b (outcome mark bound ts ns)) (stood : Bool) (is : stood ≡ nat_lt x.number x.count) where
  pub none-left : stood ≡ false → start ≡ outcome mark bound ts ns b
  none-left ended = e ∙ no-more mark bound ns x b (outcome mark bound ts ns) (sym is ∙ ended)

  module _ (holds : stood ≡ true) where
    pub too-many-values : most_rounds ≤ x.number → IsFaulty b start
    too-many-values most = subst (IsFaulty b) (sym e) (too-many mark bound ns x b (outcome mark bound ts ns) (sym is ∙ holds) most)

    module _ (less : x.number < most_rounds) where
      pub separator-bursts : most_tokens < count_of b + size (separator_leaves (option_map (λ s. separator_of s.now) x.separator)) → most_tokens < reached start
      separator-bursts lacks =
          let k = round-least mark bound ts ns x b (sym is ∙ holds) less in
          let d = ap reached e in
          omega (arith, k, d, lacks)

      module _ (mid : Building) (put : mid ≡ extended b (separator_leaves (option_map (λ s. separator_of s.now) x.separator))) where
        begun : start
            ≡ put_and (gives mark bound (ns ++ (x.number ∷ [])) (items_of x.body.now)) (puts_out mark bound (ns ++ (x.number ∷ [])) (items_of x.body.now)) mid
            (outcome mark bound (Later (after_next mark bound x) ∷ ts) (ns ++ (x.number ∷ [])))
        begun =
            e ∙ one-more-round mark bound ts ns x b (sym is ∙ holds) less
            ∙ ap (outcome mark bound (items_task x.body ∷ Later (after_next mark bound x) ∷ ts) (ns ++ (x.number ∷ []))) (sym put)

        module _ (o : Option Binding) (at : o ≡ value_at x.number vs) where
          given : fragment_in is_name most_rounds mark bound place o ≡ gives mark bound (ns ++ (x.number ∷ [])) (items_of x.body.now)
          given = ap (fragment_in is_name most_rounds mark bound place) at ∙ sym (all.1 x.number).0

          so_many : size_of (fragment_in is_name most_rounds mark bound place o) ≡ puts_out mark bound (ns ++ (x.number ∷ [])) (items_of x.body.now)
          so_many = ap (λ v. size_of (fragment_in is_name most_rounds mark bound place v)) at ∙ sym (all.1 x.number).1

          pub value-bursts : most_tokens < count_of mid + size_of (fragment_in is_name most_rounds mark bound place o) → most_tokens < reached start
          value-bursts lacks =
              let k = value-least mark bound (Later (after_next mark bound x) ∷ ts) (ns ++ (x.number ∷ [])) (items_of x.body.now) mid in
              let d = ap reached begun in
              let s = ap size_of given in
              omega (arith, k, d, s, lacks)

          steps : (ok : Bool) (new : Building) → Fills (Ok ok) mid new (fragment_in is_name most_rounds mark bound place o) → KeepsAtFault (Ok ok) mid new →
              GoesOn ok new start (outcome mark bound (Later (after_next mark bound x) ∷ ts) (ns ++ (x.number ∷ [])) new)
          steps ok new h k =
              subst (λ t. GoesOn ok new t (outcome mark bound (Later (after_next mark bound x) ∷ ts) (ns ++ (x.number ∷ [])) new)) (sym begun)
              (value-steps mark bound (Later (after_next mark bound x) ∷ ts) (ns ++ (x.number ∷ [])) (items_of x.body.now) ok mid new _ given so_many h k)

          pub value-fault : (ok : Bool) (new : Building) → Fills (Ok ok) mid new (fragment_in is_name most_rounds mark bound place o) → KeepsAtFault (Ok ok) mid new →
              ok ≡ false → IsFaulty new start
          value-fault ok new h k f =
              subst (λ t. GoesOn t new start (outcome mark bound (Later (after_next mark bound x) ∷ ts) (ns ++ (x.number ∷ [])) new)) f (steps ok new h k)

          pub value-put : (ok : Bool) (new : Building) → Fills (Ok ok) mid new (fragment_in is_name most_rounds mark bound place o) → KeepsAtFault (Ok ok) mid new →
              ok ≡ true → start ≡ rounds_and mark bound ns (after_next mark bound x) new (outcome mark bound ts ns)
          value-put ok new h k f =
              subst (λ t. GoesOn t new start (outcome mark bound (Later (after_next mark bound x) ∷ ts) (ns ++ (x.number ∷ [])) new)) f (steps ok new h k)
              ∙ ap (λ l. rounds_and mark bound l (after_next mark bound x) new (outcome mark bound ts l)) (around-last ns x.number)

-- ---- the first round

module _ (mark : Span → Span) (bound : Map) (ns : List ℕ) (ts : List TranscribeTask) (x : Iterations) (one : x.number ≡ 1) (k : RepeatKind) (place : Span) (vs : Values)
    (all : HasValues mark bound ns (items_of x.body.now) place x.count vs) (old : Building) (stood : Bool) (is : stood ≡ nat_lt 0 x.count) (holds : stood ≡ true)
    (o : Option Binding) (at : o ≡ value_at 0 vs) where
  abbrev pub start : Outcome
  start =
      put_and (repetition_gives mark bound ns (items_of x.body.now) (option_map (λ s. separator_of s.now) x.separator) k)
      (repetition_puts_out mark bound ns (items_of x.body.now) (option_map (λ s. separator_of s.now) x.separator) k) old (outcome mark bound ts ns)

  abbrev after : List TranscribeTask
  after = (if is_single k then Leave else Later x) ∷ ts

  begun-first : start
      ≡ put_and (gives mark bound (ns ++ (0 ∷ [])) (items_of x.body.now)) (puts_out mark bound (ns ++ (0 ∷ [])) (items_of x.body.now)) old
      (outcome mark bound after (ns ++ (0 ∷ [])))
  begun-first = rounds-begin mark bound ts ns x k old one all.0 (sym is ∙ holds)

  first-given : fragment_in is_name most_rounds mark bound place o ≡ gives mark bound (ns ++ (0 ∷ [])) (items_of x.body.now)
  first-given = ap (fragment_in is_name most_rounds mark bound place) at ∙ sym (all.1 0).0

  first-many : size_of (fragment_in is_name most_rounds mark bound place o) ≡ puts_out mark bound (ns ++ (0 ∷ [])) (items_of x.body.now)
  first-many = ap (λ v. size_of (fragment_in is_name most_rounds mark bound place v)) at ∙ sym (all.1 0).1

  pub first-bursts : most_tokens < count_of old + size_of (fragment_in is_name most_rounds mark bound place o) → most_tokens < reached start
  first-bursts lacks =
      let least = value-least mark bound after (ns ++ (0 ∷ [])) (items_of x.body.now) old in
      let d = ap reached begun-first in
      let s = ap size_of first-given in
      omega (arith, least, d, s, lacks)

  first-steps : (ok : Bool) (new : Building) → Fills (Ok ok) old new (fragment_in is_name most_rounds mark bound place o) → KeepsAtFault (Ok ok) old new →
      GoesOn ok new start (outcome mark bound after (ns ++ (0 ∷ [])) new)
  first-steps ok new h k =
      subst (λ t. GoesOn ok new t (outcome mark bound after (ns ++ (0 ∷ [])) new)) (sym begun-first)
      (value-steps mark bound after (ns ++ (0 ∷ [])) (items_of x.body.now) ok old new _ first-given first-many h k)

  pub first-fault : (ok : Bool) (new : Building) → Fills (Ok ok) old new (fragment_in is_name most_rounds mark bound place o) → KeepsAtFault (Ok ok) old new →
      ok ≡ false → IsFaulty new start
  first-fault ok new h k f = subst (λ t. GoesOn t new start (outcome mark bound after (ns ++ (0 ∷ [])) new)) f (first-steps ok new h k)

  first-put : (ok : Bool) (new : Building) → Fills (Ok ok) old new (fragment_in is_name most_rounds mark bound place o) → KeepsAtFault (Ok ok) old new → ok ≡ true →
      start ≡ outcome mark bound after (ns ++ (0 ∷ [])) new
  first-put ok new h k f = subst (λ t. GoesOn t new start (outcome mark bound after (ns ++ (0 ∷ [])) new)) f (first-steps ok new h k)

  -- no round comes after it
  pub only-put : (ok alone : Bool) (new : Building) → Fills (Ok ok) old new (fragment_in is_name most_rounds mark bound place o) → KeepsAtFault (Ok ok) old new → ok ≡ true →
      alone ≡ is_single k → alone ≡ true → start ≡ outcome mark bound ts ns new
  only-put ok alone new h keeps f single so =
      first-put ok new h keeps f
      ∙ ap (λ a. outcome mark bound ((if a then Leave else Later x) ∷ ts) (ns ++ (0 ∷ [])) new) (sym single ∙ so)
      ∙ ap (λ l. outcome mark bound ts l new) (around-last ns 0)

  -- rounds come after it
  pub more-put : (ok alone : Bool) (new : Building) → Fills (Ok ok) old new (fragment_in is_name most_rounds mark bound place o) → KeepsAtFault (Ok ok) old new → ok ≡ true →
      alone ≡ is_single k → alone ≡ false → start ≡ rounds_and mark bound ns x new (outcome mark bound ts ns)
  more-put ok alone new h keeps f single so =
      first-put ok new h keeps f
      ∙ ap (λ a. outcome mark bound ((if a then Leave else Later x) ∷ ts) (ns ++ (0 ∷ [])) new) (sym single ∙ so)
      ∙ ap (λ l. rounds_and mark bound l x new (outcome mark bound ts l)) (around-last ns 0)

-- ---- what is said otherwise

pub same-rounds : (mark : Span → Span) (bound : Map) (ns ms : List ℕ) (body : Items) (n : ℕ) → ms ≡ ns → HasRounds mark bound ms body n → HasRounds mark bound ns body n
same-rounds mark bound ns ms body n e h = subst (λ l. HasRounds mark bound l body n) e h

pub same-values : (mark : Span → Span) (bound : Map) (ns ms : List ℕ) (body : Items) (p q : Span) (n m : ℕ) (vs : Values) → ms ≡ ns → q ≡ p → m ≡ n →
    HasValues mark bound ms body p n vs → HasValues mark bound ns body q m vs
same-values mark bound ns ms body p q n m vs e f g h =
    subst (λ k. HasValues mark bound ns body q k vs) (sym g) (subst (λ s. HasValues mark bound ns body s n vs) (sym f) (subst (λ l. HasValues mark bound l body p n vs) e h))
