-- One more definition of a text has its id.
use Rattle.std.proofs.Common.{◌≡◌, ◌↔◌, ℕ, ◌+◌, ◌≤◌, ◌^◌, Global, Bool, true, false, cond, List, [], ◌∷◌, ◌++◌, map, Option, Some, None, refl, ap, sym, subst, ◌∙◌, arith, option_map}
use Rattle.std.specs.Prelude.{◌||◌, is_some}
use Rattle.std.specs.List.{list_any}
use Rattle.std.specs.Rc.{rc_value}
use Rattle.std.specs.declared.rc.Rc.{Rc}
use Rattle.std.proofs.lemmas.List.Elements.{All-append, All-cons, All-head, All-nil, All-tail}
use Rattle.bridge.specs.ReadText.{text_top}
use Rattle.tt.specs.Tops.{Top}
use Rattle.tt_data.specs.Forest.{Forest}
use Rattle.tt_data.specs.declared.edition.Edition.{Edition}
use Rattle.expander_scope.specs.Interning.{AllRead, AreInTable, IsTable, definition_tops, known_in, numbers_in}
use Rattle.expander_model.specs.HashedTrees.{own_top}
use Rattle.expander_model.specs.EqualTrees.{same_forest, same_top}
use Rattle.expander_scope.specs.Editions.{IsRead}
use Rattle.expander_scope.specs.DefinitionTexts.{HasNumbered, inner_of}
use Rattle.expander_scope.specs.DefinitionIds.{AreNumbered, HaveNumbers}
use Rattle.expander_scope.specs.NewNumbers.{needed}
use Rattle.expander_scope.specs.declared.interner.Interner.{Interner}
use Rattle.expander_scope.specs.declared.macro_def.MacroDef.{MacroDef}
use Rattle.expander_scope.specs.declared.definition_ids.DefinitionIds as code
use Rattle.expander_scope.proofs.DefinitionIdLemmas.{needed_more, new_number, old_number, same_number}

pub own_is : (t : Top) → t.delimiter ≡ text_top → own_top t.inner ≡ t
own_is t is = λ i. record { delimiter = sym is i; inner = t.inner }

pub has_number : (table : Interner) (t : Top) (k : MacroDef) → t.delimiter ≡ text_top → known_in table t ≡ Some k → numbers_in table t.inner ≡ Some k.number
has_number table t k is e = ap (option_map (λ (x : MacroDef). x.number)) (ap (known_in table) (own_is t is) ∙ e)

pub has_none : (table : Interner) (t : Top) → t.delimiter ≡ text_top → known_in table t ≡ None → numbers_in table t.inner ≡ None
has_none table t is e = ap (option_map (λ (x : MacroDef). x.number)) (ap (known_in table) (own_is t is) ∙ e)

mapped_more : {X Y : Type 0} (f : X → Y) (xs : List X) (x : X) → map f (xs ++ x ∷ []) ≡ map f xs ++ f x ∷ []
mapped_more f [] x = refl
mapped_more f (y ∷ xs) x = ap (λ ys. f y ∷ ys) (mapped_more f xs x)

-- one more is pushed
pub trees_pushed : (xs ys : List (Rc MacroDef Global)) (rc : Rc MacroDef Global) (k : MacroDef) → ys ≡ xs ++ rc ∷ [] → rc.value ≡ k
    → map (λ x. inner_of (rc_value x)) ys ≡ map (λ x. inner_of (rc_value x)) xs ++ k.tree.inner ∷ []
trees_pushed xs ys rc k pushed is =
    ap (map (λ x. inner_of (rc_value x))) pushed ∙ mapped_more (λ x. inner_of (rc_value x)) xs rc
    ∙ ap (λ (x : MacroDef). map (λ x. inner_of (rc_value x)) xs ++ x.tree.inner ∷ []) is

-- the table once a tree has a definition
abbrev pub Puts : Interner → Interner → Top → MacroDef → Type 0
Puts old new tree k = (t : Top) → known_in new t ≡ cond (same_top tree t) (Some k) (known_in old t)

module _ (equal : (f g : Forest) → (same_forest f g ≡ true) ↔ (f ≡ g)) (alike : (a b : Top) → (same_top a b ≡ true) ↔ (a ≡ b)) where
  same : (a b : Top) → same_top a b ≡ true → a ≡ b
  same a b q = (alike a b).0 q

  table_more : (old new : Interner) (tree : Top) (k : MacroDef) → Puts old new tree k → IsTable old → k.tree ≡ tree → IsTable new
  table_more old new tree k puts is here t x e = go (same_top tree t) refl (sym (puts t) ∙ e)
    where
      some_is : (a b : MacroDef) → Some a ≡ Some b → a ≡ b
      some_is a b q = cc

      go : (b : Bool) → same_top tree t ≡ b → cond b (Some k) (known_in old t) ≡ Some x → x.tree ≡ t
      go true q e = ap (λ (y : MacroDef). y.tree) (sym (some_is k x e)) ∙ here ∙ same tree t q
      go false q e = is t x e

  numbers_more : (old new : Interner) (tree : Top) (k : MacroDef) → Puts old new tree k → tree.delimiter ≡ text_top
      → (u : Forest) → numbers_in new u ≡ cond (same_forest tree.inner u) (Some k.number) (numbers_in old u)
  numbers_more old new tree k puts is u =
      ap (option_map (λ (x : MacroDef). x.number)) (puts (own_top u))
      ∙ ap (λ (t : Top). option_map (λ (x : MacroDef). x.number) (cond (same_top t (own_top u)) (Some k) (known_in old (own_top u)))) (sym (own_is tree is))
      ∙ go (same_forest tree.inner u)
    where
      go : (b : Bool) → option_map (λ (x : MacroDef). x.number) (cond b (Some k) (known_in old (own_top u))) ≡ cond b (Some k.number) (numbers_in old u)
      go true = refl
      go false = refl

  -- each definition is still the one that its tree has, and so is one more
  module _ (old new : Interner) (stays : (t : Top) (x : MacroDef) → known_in old t ≡ Some x → known_in new t ≡ Some x) where
    all_stay : (ks : List (Rc MacroDef Global)) → AreInTable old ks → AreInTable new ks
    all_stay [] h = All-nil (λ (x : Rc MacroDef Global). known_in new (rc_value x).tree ≡ Some (rc_value x))
    all_stay (k ∷ ks) h =
        All-cons (λ (x : Rc MacroDef Global). known_in new (rc_value x).tree ≡ Some (rc_value x)) k ks
        (stays (rc_value k).tree (rc_value k) (All-head (λ (x : Rc MacroDef Global). known_in old (rc_value x).tree ≡ Some (rc_value x)) k ks h))
        (all_stay ks (All-tail (λ (x : Rc MacroDef Global). known_in old (rc_value x).tree ≡ Some (rc_value x)) k ks h))

    listed_more : (ks : List (Rc MacroDef Global)) (k : Rc MacroDef Global) → AreInTable old ks → known_in new (rc_value k).tree ≡ Some (rc_value k) → AreInTable new (ks ++ k ∷ [])
    listed_more ks k h one =
        All-append (λ (x : Rc MacroDef Global). known_in new (rc_value x).tree ≡ Some (rc_value x)) ks (k ∷ []) (all_stay ks h)
        (All-cons (λ (x : Rc MacroDef Global). known_in new (rc_value x).tree ≡ Some (rc_value x)) k [] one
        (All-nil (λ (x : Rc MacroDef Global). known_in new (rc_value x).tree ≡ Some (rc_value x))))

  -- definitions stay where a tree that had none gets one
  known_stays : (old new : Interner) (tree : Top) (k : MacroDef) → Puts old new tree k → known_in old tree ≡ None → (t : Top) (x : MacroDef) → known_in old t ≡ Some x → known_in new t ≡ Some x
  known_stays old new tree k puts none t x e = puts t ∙ go (same_top tree t) refl
    where
      go : (b : Bool) → same_top tree t ≡ b → cond b (Some k) (known_in old t) ≡ Some x
      go false q = e
      go true q =
          let both : None ≡ Some x = sym none ∙ ap (known_in old) (same tree t q) ∙ e in
          cc

  -- numbers stay
  pub numbers_grow : (old new : Interner) (tree : Top) (k : MacroDef) → Puts old new tree k → tree.delimiter ≡ text_top → numbers_in old tree.inner ≡ None
      → (u : Forest) (n : ℕ) → numbers_in old u ≡ Some n → numbers_in new u ≡ Some n
  numbers_grow old new tree k puts is none u n e = numbers_more old new tree k puts is u ∙ go (same_forest tree.inner u) refl
    where
      go : (b : Bool) → same_forest tree.inner u ≡ b → cond b (Some k.number) (numbers_in old u) ≡ Some n
      go false q = e
      go true q =
          let both : None ≡ Some n = sym none ∙ ap (numbers_in old) ((equal tree.inner u).0 q) ∙ e in
          cc

  pub number_put : (old new : Interner) (tree : Top) (k : MacroDef) → Puts old new tree k → tree.delimiter ≡ text_top → numbers_in new tree.inner ≡ Some k.number
  number_put old new tree k puts is = numbers_more old new tree k puts is tree.inner ∙ ap (λ b. cond b (Some k.number) (numbers_in old tree.inner)) ((equal tree.inner tree.inner).1 refl)

  module _ (given : ℕ) (old : Interner) (known trees : List Forest) (had : HaveNumbers (numbers_in old) known) (now next : code.DefinitionIds) (has : HasNumbered given old known trees now)
      (tree : Top) (top : tree.delimiter ≡ text_top) (k : MacroDef) (k_is : k.tree ≡ tree)
      (rc : Rc MacroDef Global) (pushed : next.definitions.items ≡ now.definitions.items ++ rc ∷ []) (rc_is : rc.value ≡ k) where
    trees_more : map (λ x. inner_of (rc_value x)) next.definitions.items ≡ map (λ x. inner_of (rc_value x)) now.definitions.items ++ k.tree.inner ∷ []
    trees_more = trees_pushed now.definitions.items next.definitions.items rc k pushed rc_is

    listed_now : ((t : Top) (x : MacroDef) → known_in now.by_tree t ≡ Some x → known_in next.by_tree t ≡ Some x) → known_in next.by_tree tree ≡ Some k
        → AreInTable next.by_tree next.definitions.items
    listed_now stays here =
        let one : known_in next.by_tree (rc_value rc).tree ≡ Some (rc_value rc) =
        subst (λ (x : MacroDef). known_in next.by_tree x.tree ≡ Some x) (sym rc_is) (ap (known_in next.by_tree) k_is ∙ here) in
        subst (AreInTable next.by_tree) (sym pushed) (listed_more now.by_tree next.by_tree stays now.definitions.items rc has.listed one)

    trees_now : map (λ x. inner_of (rc_value x)) next.definitions.items ≡ trees ++ tree.inner ∷ []
    trees_now = trees_more ∙ ap (λ (ts : List Forest). ts ++ k.tree.inner ∷ []) has.trees_are ∙ ap (λ (t : Top). trees ++ t.inner ∷ []) k_is

    -- an equal definition came before
    pub numbered_again : next.given ≡ now.given → next.by_tree ≡ now.by_tree → known_in now.by_tree tree ≡ Some k → HasNumbered given old known (trees ++ tree.inner ∷ []) next
    numbered_again given_is table_is here = record {
      numbers = subst (λ (n : ℕ). AreNumbered given (numbers_in old) known (trees ++ tree.inner ∷ []) n (numbers_in next.by_tree)) (sym given_is)
          (subst (λ (m : Interner). AreNumbered given (numbers_in old) known (trees ++ tree.inner ∷ []) now.given (numbers_in m)) (sym table_is)
          (same_number equal given (numbers_in old) known trees now.given (numbers_in now.by_tree) had has.numbers tree.inner k.number (has_number now.by_tree tree k top here)));
      trees_are = trees_now;
      table = subst IsTable (sym table_is) has.table;
      listed = listed_now (λ t x e. ap (λ (m : Interner). known_in m t) table_is ∙ e) (ap (λ (m : Interner). known_in m tree) table_is ∙ here);
    }

    module _ (puts : Puts now.by_tree next.by_tree tree k) (none : known_in now.by_tree tree ≡ None) where
      listed_put : AreInTable next.by_tree next.definitions.items
      listed_put =
          listed_now (known_stays now.by_tree next.by_tree tree k puts none)
          (puts tree ∙ ap (λ b. cond b (Some k) (known_in now.by_tree tree)) ((alike tree tree).1 refl))

      -- the last text had an equal one
      pub numbered_old : next.given ≡ now.given → known_in old tree ≡ Some k → HasNumbered given old known (trees ++ tree.inner ∷ []) next
      numbered_old given_is there = record {
        numbers = subst (λ (n : ℕ). AreNumbered given (numbers_in old) known (trees ++ tree.inner ∷ []) n (numbers_in next.by_tree)) (sym given_is)
            (old_number equal given (numbers_in old) known trees now.given (numbers_in now.by_tree) had has.numbers tree.inner (numbers_in next.by_tree) k.number
            (numbers_more now.by_tree next.by_tree tree k puts top) (has_none now.by_tree tree top none) (has_number old tree k top there));
        trees_are = trees_now;
        table = table_more now.by_tree next.by_tree tree k puts has.table k_is;
        listed = listed_put;
      }

      -- it is new
      pub numbered_new : next.given ≡ k.number → k.number ≡ now.given + 1 → known_in old tree ≡ None → HasNumbered given old known (trees ++ tree.inner ∷ []) next
      numbered_new given_is fresh nowhere =
          let n : k.number ≡ 1 + now.given = omega (arith, fresh) in
          record {
            numbers = subst (λ (m : ℕ). AreNumbered given (numbers_in old) known (trees ++ tree.inner ∷ []) m (numbers_in next.by_tree)) (sym (given_is ∙ n))
                (new_number equal given (numbers_in old) known trees now.given (numbers_in now.by_tree) had has.numbers tree.inner (numbers_in next.by_tree) k.number
                (numbers_more now.by_tree next.by_tree tree k puts top) (has_none now.by_tree tree top none) (has_none old tree top nowhere) n);
            trees_are = trees_now;
            table = table_more now.by_tree next.by_tree tree k puts has.table k_is;
            listed = listed_put;
          }

  -- no number is left for a new one
  pub numbers_end : (given : ℕ) (old : Interner) (known trees : List Forest) → HaveNumbers (numbers_in old) known → (now : code.DefinitionIds) → HasNumbered given old known trees now
      → (tree : Top) → tree.delimiter ≡ text_top → known_in now.by_tree tree ≡ None → known_in old tree ≡ None → 2 ^ 32 ≤ now.given + 1
      → 2 ^ 32 ≤ given + needed known (trees ++ tree.inner ∷ [])
  numbers_end given old known trees had now has tree top none nowhere many =
      let one : list_any (same_forest tree.inner) known ≡ false = sym (had tree.inner) ∙ ap is_some (has_none old tree top nowhere) in
      let two : list_any (same_forest tree.inner) trees ≡ false = sym (has.numbers.have tree.inner) ∙ ap is_some (has_none now.by_tree tree top none) in
      let more : needed known (trees ++ tree.inner ∷ []) ≡ needed known trees + 1 =
      needed_more equal known trees tree.inner ∙ ap (λ (b : Bool). needed known trees + cond (b || list_any (same_forest tree.inner) trees) 0 1) one
      ∙ ap (λ (b : Bool). needed known trees + cond (false || b) 0 1) two in
      omega (arith, has.numbers.given_is, more, many)

pub tops_pushed : (xs ys : List (Rc MacroDef Global)) (rc : Rc MacroDef Global) (k : MacroDef) → ys ≡ xs ++ rc ∷ [] → rc.value ≡ k
    → definition_tops ys ≡ definition_tops xs ++ k.tree ∷ []
tops_pushed xs ys rc k pushed is =
    ap definition_tops pushed ∙ mapped_more (λ (x : Rc MacroDef Global). (rc_value x).tree) xs rc ∙ ap (λ (x : MacroDef). definition_tops xs ++ x.tree ∷ []) is

pub known_updated : {X Y : Type 0} (f : X → Y) (b : Bool) (x : X) (o : Option X) → option_map f (cond b (Some x) o) ≡ cond b (Some (f x)) (option_map f o)
known_updated f true x o = refl
known_updated f false x o = refl

-- definitions stay read
pub read_put : (edition : Edition) (old new : Interner) (tree : Top) (k : MacroDef) → Puts old new tree k → IsRead edition k → AllRead edition old → AllRead edition new
read_put edition old new tree k puts is all t x e = go (same_top tree t) (sym (puts t) ∙ e)
  where
    some_is : (a b : MacroDef) → Some a ≡ Some b → a ≡ b
    some_is a b q = cc

    go : (b : Bool) → cond b (Some k) (known_in old t) ≡ Some x → IsRead edition x
    go true q = subst (IsRead edition) (some_is k x q) is
    go false q = all t x q
