-- The value of a predicate: by the values of the parts of its list, from the left.
use Rattle.std.proofs.Common.{◌≡◌, ℕ, zero, suc, ◌+◌, ◌≤◌, ◌<◌, Bool, true, false, ◌&&◌, ◌||◌, List, [], ◌∷◌, Option, Some, None, option_map, codes, refl, sym, subst, ap, ◌∙◌, arith, if◌then◌else◌}
use Rattle.std.specs.Prelude.{not}
use Rattle.std.specs.List.{list_all, list_any}
use Rattle.std.proofs.lemmas.Slice.Eq.{bytes_eq-Decides}
use Prim.Native.String.{String}
use Rattle.tt_data.specs.Forest.{Forest, empty, leaf, group, joined, size}
use Rattle.tt_data.specs.Literals.{LiteralParts}
use Rattle.tt_data.specs.declared.delimiter.DelimiterKind.TheVariants.{Parenthesis}
use Rattle.tt_data.specs.declared.leaf.Leaf.{Leaf}
use Rattle.tt_data.specs.declared.leaf.Leaf.TheVariants as as_leaf
use Rattle.bridge.specs.Text.{is_punct, same_kind}
use Rattle.small_grammar.specs.Text.{is_empty, same_text, ◌>>=◌, ◌>>◌}
use Rattle.cfg_options.specs.Conditions.{or_else}
use Rattle.cfg_options.specs.Conditions.{Options, cut_at_commas, each_value, list_behind, listed, listed_values, negated, option_value, parenthesized, predicate_value, value_within}
use Rattle.cfg_options.specs.OpenLists.{begun, list_of}
use Rattle.cfg_options.specs.Parts.{open_value, value_of_rest, with_value}
use Rattle.cfg_options.specs.declared.predicate.SoFar.TheVariants.{All, Any, Not}
use Rattle.cfg_options.specs.declared.predicate.OpenList.{OpenList}
use Rattle.cfg_options.proofs.PartLemmas.{size-both}

-- ---- sizes of parts

abbrev pub AreBelow : ℕ → List Forest → Type 0
AreBelow n [] = Unit {0}
AreBelow n (p ∷ ps) = (size p < n) × AreBelow n ps

below_leaf : (b : Bool) (l : Leaf) (n : ℕ) (begun rest : Forest) → size begun < n → AreBelow n (cut_at_commas rest empty) → AreBelow n (cut_at_commas rest (joined begun (leaf l empty)))
    → AreBelow n (if b then begun ∷ cut_at_commas rest empty else cut_at_commas rest (joined begun (leaf l empty)))
below_leaf true l n begun rest lt none some = (lt, none)
below_leaf false l n begun rest lt none some = some

pub parts_below : (n : ℕ) (f begun : Forest) → size begun + size f < n → AreBelow n (cut_at_commas f begun)
parts_below n empty empty lt = tt
parts_below n empty (leaf l b) lt = (omega (arith, lt), tt)
parts_below n empty (group d a b) lt = (omega (arith, lt), tt)
parts_below n (leaf l rest) begun lt =
    let s : size (joined begun (leaf l empty)) ≡ size begun + 1 = omega (arith, size-both begun (leaf l empty)) in
    below_leaf (is_punct "," l) l n begun rest (omega (arith, lt)) (parts_below n rest empty (omega (arith, lt)))
    (parts_below n rest (joined begun (leaf l empty)) (omega (arith, lt, s)))
parts_below n (group d inner rest) begun lt =
    let s : size (joined begun (group d inner empty)) ≡ size begun + (1 + (size inner + 0)) = omega (arith, size-both begun (group d inner empty)) in
    parts_below n rest (joined begun (group d inner empty)) (omega (arith, lt, s))

-- ---- a list behind a word

brackets_less : (b : Bool) (inner rest f : Forest) → b >> Some inner ≡ Some f → size f + 1 ≤ 1 + (size inner + size rest)
brackets_less true inner rest f e = let same : inner ≡ f = cc e in let s : size inner ≡ size f = ap size same in omega (arith, s)
brackets_less false inner rest f e = absurd (cc e)

parenthesized_less : (r f : Forest) → parenthesized r ≡ Some f → size f + 1 ≤ size r
parenthesized_less (group d inner rest) f e = brackets_less (same_kind d.kind Parenthesis && is_empty rest) inner rest f e
parenthesized_less (leaf l rest) f e = absurd (cc e)
parenthesized_less empty f e = absurd (cc e)

behind_less : (b : Bool) (r f : Forest) → (b >> Some r) >>= parenthesized ≡ Some f → size f + 2 ≤ 1 + size r
behind_less true r f e = omega (arith, parenthesized_less r f e)
behind_less false r f e = absurd (cc e)

pub list_less : (t : List ℕ) (p f : Forest) → list_behind t p ≡ Some f → size f + 2 ≤ size p
list_less t (leaf (as_leaf.Ident i) r) f e = behind_less (same_text i.sym t) r f e
list_less t (leaf (as_leaf.Punct p) rest) f e = absurd (cc e)
list_less t (leaf (as_leaf.Literal l) rest) f e = absurd (cc e)
list_less t (group d inner rest) f e = absurd (cc e)
list_less t empty f e = absurd (cc e)

-- the parts of a list have fewer tokens than what it stands in
pub listed_below : (word : String) (p : Forest) (ps : List Forest) → listed word p ≡ Some ps → AreBelow (size p) ps
listed_below word p ps e = go (list_behind (codes word) p) refl
  where
    go : (o : Option Forest) → list_behind (codes word) p ≡ o → AreBelow (size p) ps
    go None h = absurd (cc (sym e ∙ ap (option_map (λ g. cut_at_commas g empty)) h))
    go (Some f) h =
        let same : cut_at_commas f empty ≡ ps = cc (sym (ap (option_map (λ g. cut_at_commas g empty)) h) ∙ e) in
        let P : List Forest → Type 0 = λ qs. AreBelow (size p) qs in
        subst P same (parts_below (size p) f empty (omega (arith, list_less (codes word) p f h)))

-- ---- what a predicate is by the values of parts

module _ (options : Options) (text : LiteralParts → Option (List ℕ)) where
  abbrev pub by_values : (Forest → Option Bool) → Forest → Option Bool
  by_values v p =
      or_else (option_value options text p)
      (or_else (option_map (list_all (λ b. b)) (listed_values v "all" p))
      (or_else (option_map (list_any (λ b. b)) (listed_values v "any" p))
      (listed_values v "not" p >>= negated)))

  same_each : (f g : Forest → Option Bool) (n : ℕ) (ps : List Forest) → AreBelow n ps → ((q : Forest) → size q < n → f q ≡ g q) → each_value f ps ≡ each_value g ps
  same_each f g n [] below same = refl
  same_each f g n (p ∷ ps) below same =
      ap (λ o. o >>= λ b. each_value f ps >>= λ bs. Some (b ∷ bs)) (same p below.0)
      ∙ ap (λ o. g p >>= λ b. o >>= λ bs. Some (b ∷ bs)) (same_each f g n ps below.1 same)

  same_listed : (f g : Forest → Option Bool) (word : String) (p : Forest) → ((q : Forest) → size q < size p → f q ≡ g q) → listed_values f word p ≡ listed_values g word p
  same_listed f g word p same = go (listed word p) refl
    where
      go : (o : Option (List Forest)) → listed word p ≡ o → listed_values f word p ≡ listed_values g word p
      go None h = ap (λ o. o >>= each_value f) h ∙ sym (ap (λ o. o >>= each_value g) h)
      go (Some ps) h =
          ap (λ o. o >>= each_value f) h
          ∙ same_each f g (size p) ps (listed_below word p ps h) same
          ∙ sym (ap (λ o. o >>= each_value g) h)

  same_by : (f g : Forest → Option Bool) (p : Forest) → ((q : Forest) → size q < size p → f q ≡ g q) → by_values f p ≡ by_values g p
  same_by f g p same =
      ap (λ o. or_else (option_value options text p) (or_else (option_map (list_all (λ b. b)) o) (or_else (option_map (list_any (λ b. b)) (listed_values f "any" p)) (listed_values f "not" p >>= negated)))) (same_listed f g "all" p same)
      ∙ ap (λ o. or_else (option_value options text p) (or_else (option_map (list_all (λ b. b)) (listed_values g "all" p)) (or_else (option_map (list_any (λ b. b)) o) (listed_values f "not" p >>= negated)))) (same_listed f g "any" p same)
      ∙ ap (λ o. or_else (option_value options text p) (or_else (option_map (list_all (λ b. b)) (listed_values g "all" p)) (or_else (option_map (list_any (λ b. b)) (listed_values g "any" p)) (o >>= negated)))) (same_listed f g "not" p same)

  -- more depth than the size changes nothing
  more_depth : (n m : ℕ) (p : Forest) → size p < n → size p < m → value_within options text n p ≡ value_within options text m p
  more_depth zero m p h k = absurd (omega (arith, h))
  more_depth (suc n) zero p h k = absurd (omega (arith, k))
  more_depth (suc n) (suc m) p h k =
      same_by (value_within options text n) (value_within options text m) p
      (λ q lt. more_depth n m q (omega (arith, lt, h)) (omega (arith, lt, k)))

  value_step : (p : Forest) → predicate_value options text p ≡ by_values (predicate_value options text) p
  value_step p =
      same_by (value_within options text (size p)) (predicate_value options text) p
      (λ q lt. more_depth (size p) (suc (size q)) q lt (omega arith))

  -- ---- the values of a list, from the left

  and-true : (b : Bool) → (b && true) ≡ b
  and-true true = refl
  and-true false = refl

  or-false : (b : Bool) → (b || false) ≡ b
  or-false true = refl
  or-false false = refl

  and-more : (a b c : Bool) → (a && (b && c)) ≡ ((a && b) && c)
  and-more true b c = refl
  and-more false b c = refl

  or-more : (a b c : Bool) → (a || (b || c)) ≡ ((a || b) || c)
  or-more true b c = refl
  or-more false b c = refl

  abbrev all_with : Bool → Option (List Bool) → Option Bool
  all_with b o = option_map (λ bs. b && list_all (λ x. x) bs) o

  abbrev any_with : Bool → Option (List Bool) → Option Bool
  any_with b o = option_map (λ bs. b || list_any (λ x. x) bs) o

  all_put : (b x : Bool) (o : Option (List Bool)) → all_with b (o >>= λ bs. Some (x ∷ bs)) ≡ all_with (b && x) o
  all_put b x None = refl
  all_put b x (Some bs) = ap Some (and-more b x (list_all (λ y. y) bs))

  any_put : (b x : Bool) (o : Option (List Bool)) → any_with b (o >>= λ bs. Some (x ∷ bs)) ≡ any_with (b || x) o
  any_put b x None = refl
  any_put b x (Some bs) = ap Some (or-more b x (list_any (λ y. y) bs))

  module _ (v : Forest → Option Bool) where
    all_left : (b : Bool) (ps : List Forest) → all_with b (each_value v ps) ≡ value_of_rest v (All b) ps
    all_left b [] = ap Some (and-true b)
    all_left b (p ∷ ps) = go (v p) (λ x. all_left (b && x) ps)
      where
        go : (o : Option Bool) → ((x : Bool) → all_with (b && x) (each_value v ps) ≡ value_of_rest v (All (b && x)) ps) → all_with b (o >>= λ x. each_value v ps >>= λ bs. Some (x ∷ bs)) ≡ (o >>= λ x. with_value (All b) x >>= λ next. value_of_rest v next ps)
        go None more = refl
        go (Some x) more = all_put b x (each_value v ps) ∙ more x

    any_left : (b : Bool) (ps : List Forest) → any_with b (each_value v ps) ≡ value_of_rest v (Any b) ps
    any_left b [] = ap Some (or-false b)
    any_left b (p ∷ ps) = go (v p) (λ x. any_left (b || x) ps)
      where
        go : (o : Option Bool) → ((x : Bool) → any_with (b || x) (each_value v ps) ≡ value_of_rest v (Any (b || x)) ps) → any_with b (o >>= λ x. each_value v ps >>= λ bs. Some (x ∷ bs)) ≡ (o >>= λ x. with_value (Any b) x >>= λ next. value_of_rest v next ps)
        go None more = refl
        go (Some x) more = any_put b x (each_value v ps) ∙ more x

    not_two : (x y : Bool) (o : Option (List Bool)) → (o >>= λ bs. Some (y ∷ bs)) >>= (λ bs. Some (x ∷ bs)) >>= negated ≡ None
    not_two x y None = refl
    not_two x y (Some bs) = refl

    not_left : (ps : List Forest) → (each_value v ps >>= negated) ≡ value_of_rest v Not ps
    not_left [] = refl
    not_left (p ∷ []) = go (v p)
      where
        go : (o : Option Bool) → (o >>= λ x. Some (x ∷ [])) >>= negated ≡ (o >>= λ x. Some (not x))
        go None = refl
        go (Some x) = refl
    not_left (p ∷ (q ∷ ps)) = go (v p) (v q)
      where
        go : (o u : Option Bool) → ((o >>= λ x. (u >>= λ y. each_value v ps >>= λ bs. Some (y ∷ bs)) >>= λ bs. Some (x ∷ bs)) >>= negated) ≡ (o >>= λ x. with_value Not x >>= λ next. u >>= λ y. with_value next y >>= λ last. value_of_rest v last ps)
        go None u = refl
        go (Some x) None = refl
        go (Some x) (Some y) = not_two x y (each_value v ps)

    or-none : (o : Option Bool) → or_else o None ≡ o
    or-none None = refl
    or-none (Some x) = refl

    abbrev parts_value : Option Forest → Option (List Bool)
    parts_value o = option_map (λ g. cut_at_commas g empty) o >>= each_value v

    -- the first of three lists that there is
    abbrev by_parts : Option Forest → Option Forest → Option Forest → Option Bool
    by_parts all any not_ =
        or_else (all_with true (parts_value all)) (or_else (any_with false (parts_value any)) (parts_value not_ >>= negated))

    abbrev by_list : Option Forest → Option Forest → Option Forest → Option Bool
    by_list all any not_ =
        or_else (option_map (begun (All true)) all) (or_else (option_map (begun (Any false)) any) (option_map (begun Not) not_)) >>= open_value v

    all_alone : (p : Option Forest) → by_parts p None None ≡ by_list p None None
    all_alone None = refl
    all_alone (Some f) = or-none (all_with true (each_value v (cut_at_commas f empty))) ∙ all_left true (cut_at_commas f empty)

    any_alone : (p : Option Forest) → by_parts None p None ≡ by_list None p None
    any_alone None = refl
    any_alone (Some f) = or-none (any_with false (each_value v (cut_at_commas f empty))) ∙ any_left false (cut_at_commas f empty)

    not_alone : (p : Option Forest) → by_parts None None p ≡ by_list None None p
    not_alone None = refl
    not_alone (Some f) = not_left (cut_at_commas f empty)

    abbrev behind : Bool → Forest → Option Forest
    behind b r = (b >> Some r) >>= parenthesized

    -- of three tests at most one is passed
    choose : (a b c : Bool) (r : Forest) → (a ≡ true → b ≡ false) → (a ≡ true → c ≡ false) → (b ≡ true → c ≡ false)
        → by_parts (behind a r) (behind b r) (behind c r) ≡ by_list (behind a r) (behind b r) (behind c r)
    choose true true c r ab ac bc = absurd (cc (ab refl))
    choose true false true r ab ac bc = absurd (cc (ac refl))
    choose true false false r ab ac bc = all_alone (parenthesized r)
    choose false true true r ab ac bc = absurd (cc (bc refl))
    choose false true false r ab ac bc = any_alone (parenthesized r)
    choose false false true r ab ac bc = not_alone (parenthesized r)
    choose false false false r ab ac bc = refl

    other_word : (s : List ℕ) (a b : String) → same_text (codes a) (codes b) ≡ false → same_text s (codes a) ≡ true → same_text s (codes b) ≡ false
    other_word s a b apart e = ap (λ t. same_text t (codes b)) ((bytes_eq-Decides s (codes a)).0 e) ∙ apart

    chosen : (p : Forest) → by_parts (list_behind (codes "all") p) (list_behind (codes "any") p) (list_behind (codes "not") p) ≡ (list_of p >>= open_value v)
    chosen (leaf (as_leaf.Ident i) r) =
        choose (same_text i.sym (codes "all")) (same_text i.sym (codes "any")) (same_text i.sym (codes "not")) r
        (other_word i.sym "all" "any" refl) (other_word i.sym "all" "not" refl) (other_word i.sym "any" "not" refl)
    chosen (leaf (as_leaf.Punct p) rest) = refl
    chosen (leaf (as_leaf.Literal l) rest) = refl
    chosen (group d inner rest) = refl
    chosen empty = refl

  -- a predicate is an option or a list
  value_of_shape : (p : Forest) → predicate_value options text p ≡ or_else (option_value options text p) (list_of p >>= open_value (predicate_value options text))
  value_of_shape p = value_step p ∙ ap (or_else (option_value options text p)) (chosen (predicate_value options text) p)

  -- a list is no option
  list_is_no_option : (p : Forest) (l : OpenList) → list_of p ≡ Some l → option_value options text p ≡ None
  list_is_no_option (leaf (as_leaf.Ident i) (group d inner rest)) l e = refl
  list_is_no_option (leaf (as_leaf.Ident i) (leaf m rest)) l e = absurd (none (same_text i.sym (codes "all")) (same_text i.sym (codes "any")) (same_text i.sym (codes "not")) e)
    where
      none : (a b c : Bool) → or_else (option_map (begun (All true)) ((a >> Some (leaf m rest)) >>= parenthesized)) (or_else (option_map (begun (Any false)) ((b >> Some (leaf m rest)) >>= parenthesized)) (option_map (begun Not) ((c >> Some (leaf m rest)) >>= parenthesized))) ≡ Some l → ⊥
      none true true true h = cc h
      none true true false h = cc h
      none true false true h = cc h
      none true false false h = cc h
      none false true true h = cc h
      none false true false h = cc h
      none false false true h = cc h
      none false false false h = cc h
  list_is_no_option (leaf (as_leaf.Ident i) empty) l e = absurd (none (same_text i.sym (codes "all")) (same_text i.sym (codes "any")) (same_text i.sym (codes "not")) e)
    where
      none : (a b c : Bool) → or_else (option_map (begun (All true)) ((a >> Some (empty)) >>= parenthesized)) (or_else (option_map (begun (Any false)) ((b >> Some (empty)) >>= parenthesized)) (option_map (begun Not) ((c >> Some (empty)) >>= parenthesized))) ≡ Some l → ⊥
      none true true true h = cc h
      none true true false h = cc h
      none true false true h = cc h
      none true false false h = cc h
      none false true true h = cc h
      none false true false h = cc h
      none false false true h = cc h
      none false false false h = cc h
  list_is_no_option (leaf (as_leaf.Punct p) rest) l e = absurd (cc e)
  list_is_no_option (leaf (as_leaf.Literal m) rest) l e = absurd (cc e)
  list_is_no_option (group d inner rest) l e = absurd (cc e)
  list_is_no_option empty l e = absurd (cc e)

  pub value_of_list : (p : Forest) (l : OpenList) → list_of p ≡ Some l → predicate_value options text p ≡ open_value (predicate_value options text) l
  value_of_list p l e =
      value_of_shape p
      ∙ ap (λ o. or_else o (list_of p >>= open_value (predicate_value options text))) (list_is_no_option p l e)
      ∙ ap (λ o. o >>= open_value (predicate_value options text)) e

  or-nothing : (o : Option Bool) → or_else o None ≡ o
  or-nothing None = refl
  or-nothing (Some x) = refl

  pub value_of_other : (p : Forest) → list_of p ≡ None → predicate_value options text p ≡ option_value options text p
  value_of_other p e =
      value_of_shape p
      ∙ ap (λ o. or_else (option_value options text p) (o >>= open_value (predicate_value options text))) e
      ∙ or-nothing (option_value options text p)
