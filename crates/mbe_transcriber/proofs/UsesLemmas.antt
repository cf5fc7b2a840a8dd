-- How an iteration uses the metavariables of its body, one after another.
use Rattle.std.proofs.Common.{◌≡◌, refl, sym, ap, ◌∙◌, ℕ, zero, suc, ◌<◌, Bool, true, false, ◌&&◌, ◌||◌, not, nat_lt, le-ltb, ltb-true, ltb-false, if◌then◌else◌, List, [], ◌∷◌, ◌++◌, map, length, get_or, drop, drop-cons, ◌≤◌, Option, Some, None, option_and_then, arith}
use Rattle.std.proofs.lemmas.List.{map-append, drop_all}
use Rattle.std.specs.List.{list_any}
use Rattle.std.specs.declared.vec.Vec.{Vec}
use Rattle.std.specs.declared.alloc.Global.{Global}
use Rattle.tt_data.specs.declared.delimiter.Delimiter.{Delimiter}
use Rattle.mbe_rules.specs.Items.{Part, Items, done}
use Rattle.mbe_rules.specs.Ops.{part_of, put_op, row_items, items_of}
use Rattle.mbe_rules.specs.declared.parser.ConcatElement.{ConcatElement}
use Rattle.mbe_rules.specs.declared.parser.ConcatElement.TheVariants.{Text, Var}
use Rattle.mbe_rules.specs.declared.parser.Op.{Op, Concat, Repeat, Subtree, Repeat', Subtree'}
use Rattle.mbe_rules.specs.declared.parser.RepeatKind.{RepeatKind}
use Rattle.mbe_rules.specs.declared.parser.Separator.{Separator}
use Rattle.mbe_rules.proofs.OpsLemmas.{put-Repeat, put-Subtree}
use Rattle.mbe_matcher.specs.Bindings.{Map, value_at, binding_of}
use Rattle.mbe_matcher.specs.Bindings as b
use Rattle.mbe_matcher.specs.Bound.{standing_for, values_of}
use Rattle.mbe_matcher.proofs.BoundLemmas.{standing-Rounds}
use Rattle.mbe_transcriber.specs.Filling.{value_in, use_of_member, Use, unused, has_value, has_none, is_use, is_lack, stands, names, part_names, use_in}
use Rattle.mbe_transcriber.specs.Uses.{beside, together, use_at, uses_of}
use Rattle.mbe_matcher.specs.declared.bindings.Binding.{Binding, Rounds}

append-nil : {A : Type 0} (xs : List A) → xs ++ [] ≡ xs
append-nil [] = refl
append-nil (x ∷ xs) = ap (λ ys. x ∷ ys) (append-nil xs)

-- ---- values

-- the value of a round is the member of the list at its place
pub value-at : (xs : List Binding) (n : ℕ) (x : Binding) → n < length xs → x ≡ get_or xs n x → value_at n (values_of xs) ≡ Some (standing_for x)
value-at [] n x h e = absurd (omega arith)
value-at (y ∷ xs) zero x h e = ap (λ z. Some (standing_for z)) (sym e)
value-at (y ∷ xs) (suc n) x h e = value-at xs n x (omega arith) e

pub value-past : (xs : List Binding) (n : ℕ) → length xs ≤ n → value_at n (values_of xs) ≡ None
value-past [] n h = refl
value-past (y ∷ xs) zero h = absurd (omega arith)
value-past (y ∷ xs) (suc n) h = value-past xs n (omega arith)

-- ---- uses

beside-assoc : (u v w : Use) → beside (beside u v) w ≡ beside u (beside v w)
beside-assoc unused v w = refl
beside-assoc has_value unused w = refl
beside-assoc has_value has_value unused = refl
beside-assoc has_value has_value has_value = refl
beside-assoc has_value has_value has_none = refl
beside-assoc has_value has_none w = refl
beside-assoc has_none v w = refl

together-append : (us vs : List Use) → together (us ++ vs) ≡ beside (together us) (together vs)
together-append [] vs = refl
together-append (u ∷ us) vs = ap (beside u) (together-append us vs) ∙ sym (beside-assoc u (together us) (together vs))

uses-append : (ns : List ℕ) (m : Map) (xs ys : List (List ℕ)) →
    together (uses_of ns m (xs ++ ys)) ≡ beside (together (uses_of ns m xs)) (together (uses_of ns m ys))
uses-append ns m xs ys = ap together (map-append _ xs ys) ∙ together-append (uses_of ns m xs) (uses_of ns m ys)

pub names-put : (o : Op) (rest : Items) → names (put_op o rest) ≡ names (put_op o done) ++ names rest
names-put (Repeat' shape row sep k) rest = ap (λ ns. ns ++ names rest) (sym (append-nil (names (row_items row))))
names-put (Subtree' shape row d) rest = ap (λ ns. ns ++ names rest) (sym (append-nil (names (row_items row))))
names-put (Concat elements id) rest = ap (λ ns. ns ++ names rest) (sym (append-nil (part_names (map part_of elements.items))))
names-put _ rest = refl

pub names-Concat : (ns : List ℕ) (m : Map) (elements : List Part) → together (uses_of ns m (part_names elements ++ [])) ≡ together (uses_of ns m (part_names elements))
names-Concat ns m elements = ap (λ xs. together (uses_of ns m xs)) (append-nil (part_names elements))

pub names-Repeat : (o : Op) (v : Vec Op Global) (sep : Option Separator) (k : RepeatKind) → o ≡ Repeat v sep k →
    names (items_of v.items) ≡ names (put_op o done)
names-Repeat o v sep k e =
    sym (ap (λ x. names (put_op x done)) e ∙ ap names (put-Repeat v sep k done) ∙ append-nil (names (items_of v.items)))

pub names-Subtree : (o : Op) (v : Vec Op Global) (d : Delimiter) → o ≡ Subtree v d → names (items_of v.items) ≡ names (put_op o done)
names-Subtree o v d e =
    sym (ap (λ x. names (put_op x done)) e ∙ ap names (put-Subtree v d done) ∙ append-nil (names (items_of v.items)))

-- what so far is used, with one item more, and what is left uses
pub walk-used : (ns : List ℕ) (m : Map) (u v w : Use) (all first left : List (List ℕ)) (t : Use) → v ≡ beside u w → w ≡ together (uses_of ns m first) →
    all ≡ first ++ left → beside u (together (uses_of ns m all)) ≡ t → beside v (together (uses_of ns m left)) ≡ t
walk-used ns m u v w all first left t is one e from =
    ap (λ x. beside x (together (uses_of ns m left))) (is ∙ ap (beside u) one)
    ∙ beside-assoc u (together (uses_of ns m first)) (together (uses_of ns m left))
    ∙ ap (beside u) (sym (ap (λ xs. together (uses_of ns m xs)) e ∙ uses-append ns m first left))
    ∙ from

beside-unused : (u : Use) → beside u unused ≡ u
beside-unused unused = refl
beside-unused has_value = refl
beside-unused has_none = refl

-- what so far is used, and what the parts of `${concat(..)}` that are left use
abbrev pub PartsFrom : List ℕ → Map → List ConcatElement → ℕ → Use → Type 0
PartsFrom ns m ps i u =
    beside u (together (uses_of ns m (part_names (map part_of (drop i ps))))) ≡ together (uses_of ns m (part_names (map part_of ps)))

-- the round of index k is one of so many
abbrev is_one : ℕ → Option ℕ → Bool
is_one k None = false
is_one k (Some n) = nat_lt k n

-- a round stands where all uses together have a value
use-beside : (u v : Use) → is_use (beside u v) ≡ (is_use u || is_use v)
use-beside unused v = refl
use-beside has_value unused = refl
use-beside has_value has_value = refl
use-beside has_value has_none = refl
use-beside has_none v = refl

lack-beside : (u v : Use) → is_lack (beside u v) ≡ (is_lack u || is_lack v)
lack-beside unused v = refl
lack-beside has_value unused = refl
lack-beside has_value has_value = refl
lack-beside has_value has_none = refl
lack-beside has_none v = refl

any-use : (us : List Use) → is_use (together us) ≡ list_any is_use us
any-use [] = refl
any-use (u ∷ us) = use-beside u (together us) ∙ ap (λ b. is_use u || b) (any-use us)

any-lack : (us : List Use) → is_lack (together us) ≡ list_any is_lack us
any-lack [] = refl
any-lack (u ∷ us) = lack-beside u (together us) ∙ ap (λ b. is_lack u || b) (any-lack us)

-- a round of a repetition stands by the least of the lengths
stands-at : (k : ℕ) (o : Option ℕ) (us : List Use) → use_at k o ≡ together us → is_one k o ≡ stands us
stands-at k o us e =
    has-it k o ∙ ap (λ x. is_use x && not (is_lack x)) e ∙ ap (λ a. a && not (is_lack (together us))) (any-use us) ∙ ap (λ a. list_any is_use us && not a) (any-lack us)
  where
    has-it : (k : ℕ) (o : Option ℕ) → is_one k o ≡ (is_use (use_at k o) && not (is_lack (use_at k o)))
    has-it k None = refl
    has-it k (Some n) = go (nat_lt k n)
      where
        go : (b : Bool) → b ≡ (is_use (if b then has_value else has_none) && not (is_lack (if b then has_value else has_none)))
        go true = refl
        go false = refl

pub stands-below : (k n : ℕ) (o : Option ℕ) (us : List Use) → o ≡ Some n → use_at k o ≡ together us → nat_lt k n ≡ stands us
stands-below k n o us is e = sym (ap (is_one k) is) ∙ stands-at k o us e

pub stands-never : (k : ℕ) (o : Option ℕ) (us : List Use) → o ≡ None → use_at k o ≡ together us → nat_lt k 0 ≡ stands us
stands-never k o us is e = le-ltb k 0 (omega arith) ∙ sym (ap (is_one k) is) ∙ stands-at k o us e

text-cut : (ns : List ℕ) (m : Map) (p : ConcatElement) (ps : List ConcatElement) →
    together (uses_of ns m (part_names (map part_of (p ∷ ps)))) ≡ beside (together (uses_of ns m (part_names (map part_of (p ∷ []))))) (together (uses_of ns m (part_names (map part_of ps))))
text-cut ns m (Text t) ps = refl
text-cut ns m (Var n) ps = ap (λ u. beside u (together (uses_of ns m (part_names (map part_of ps))))) (sym (beside-unused _))

pub part-used : (ns : List ℕ) (m : Map) (ps : List ConcatElement) (i j : ℕ) (d : ConcatElement) (u v w : Use) → j ≡ suc i → i < length ps → d ≡ get_or ps i d →
    v ≡ beside u w → w ≡ together (uses_of ns m (part_names (map part_of (d ∷ [])))) → PartsFrom ns m ps i u → PartsFrom ns m ps j v
part-used ns m ps i j d u v w r h e is one from =
    let k : drop i ps ≡ d ∷ drop j ps = drop-cons ps i d h ∙ ap (λ x. x ∷ drop (suc i) ps) (sym e) ∙ ap (λ x. d ∷ drop x ps) (sym r) in
    let more = together (uses_of ns m (part_names (map part_of (drop j ps)))) in
    ap (λ x. beside x more) (is ∙ ap (beside u) one)
    ∙ beside-assoc u (together (uses_of ns m (part_names (map part_of (d ∷ []))))) more
    ∙ ap (beside u) (sym (ap (λ xs. together (uses_of ns m (part_names (map part_of xs)))) k ∙ text-cut ns m d (drop j ps)))
    ∙ from

pub parts-used : (ns : List ℕ) (m : Map) (ps : List ConcatElement) (i : ℕ) (u : Use) → length ps ≤ i → PartsFrom ns m ps i u →
    u ≡ together (uses_of ns m (part_names (map part_of ps)))
parts-used ns m ps i u h from =
    sym (beside-unused u) ∙ sym (ap (λ xs. beside u (together (uses_of ns m (part_names (map part_of xs))))) (drop_all i ps h)) ∙ from

pub of-text : (ns : List ℕ) (m : Map) (d : ConcatElement) (t : List ℕ) → d ≡ Text t → unused ≡ together (uses_of ns m (part_names (map part_of (d ∷ []))))
of-text ns m d t e = rw e refl

pub of-name : (ns : List ℕ) (m : Map) (d : ConcatElement) (n : List ℕ) (w : Use) → d ≡ Var n → w ≡ use_in ns (binding_of n m) →
    w ≡ together (uses_of ns m (part_names (map part_of (d ∷ []))))
of-name ns m d n w e is = rw e (is ∙ sym (beside-unused _))

pub same-unused : (u : Use) → u ≡ beside u unused
same-unused u = sym (beside-unused u)

-- ---- the next round of a list

pub value-step : (ns : List ℕ) (n : ℕ) (inner : List ℕ) (x : Binding) (v : Vec Binding Global) (m : Option b.Binding) →
    ns ≡ n ∷ inner → x ≡ Rounds v → m ≡ value_at n (values_of v.items) → option_and_then (value_in inner) m ≡ value_in ns (standing_for x)
value-step ns n inner x v m e is found = rw (e, is, found) (ap (value_in (n ∷ inner)) (sym (standing-Rounds v)))

pub value-one : (n : ℕ) (x : Binding) (v : Vec Binding Global) (m : Option b.Binding) →
    x ≡ Rounds v → m ≡ value_at n (values_of v.items) → m ≡ value_in (n ∷ []) (standing_for x)
value-one n x v m is found = itself m ∙ value-step (n ∷ []) n [] x v m refl is found
  where
    itself : (m : Option b.Binding) → m ≡ option_and_then (value_in []) m
    itself None = refl
    itself (Some y) = refl

-- the value in one iteration, and then in those inside it
pub value-then : (n : ℕ) (inner : List ℕ) (y : b.Binding) →
    option_and_then (value_in inner) (value_in (n ∷ []) y) ≡ value_in (n ∷ inner) y
value-then n [] (b.fragment k f) = refl
value-then n (q ∷ inner) (b.fragment k f) = refl
value-then n inner b.skipped = refl
value-then n inner (b.rounds vs) = go (value_at n vs)
  where
    go : (m : Option b.Binding) → option_and_then (value_in inner) (option_and_then (value_in []) m) ≡ option_and_then (value_in inner) m
    go None = refl
    go (Some y) = refl

value-later : (n : ℕ) (inner : List ℕ) (m : Option b.Binding) →
    option_and_then (value_in inner) (option_and_then (value_in (n ∷ [])) m) ≡ option_and_then (value_in (n ∷ inner)) m
value-later n inner None = refl
value-later n inner (Some y) = value-then n inner y

pub value-next : (ns : List ℕ) (i j : ℕ) (m k all : Option b.Binding) → j ≡ suc i → i < length ns →
    k ≡ option_and_then (value_in (get_or ns i 0 ∷ [])) m → option_and_then (value_in (drop i ns)) m ≡ all → option_and_then (value_in (drop j ns)) k ≡ all
value-next ns i j m k all u h e same =
    let d : drop i ns ≡ get_or ns i 0 ∷ drop j ns = drop-cons ns i 0 h ∙ ap (λ y. get_or ns i 0 ∷ drop y ns) (sym u) in
    ap (option_and_then (value_in (drop j ns))) e ∙ value-later (get_or ns i 0) (drop j ns) m ∙ ap (λ xs. option_and_then (value_in xs) m) (sym d) ∙ same

pub value-ended : (ns : List ℕ) (i : ℕ) (m all : Option b.Binding) → length ns ≤ i → option_and_then (value_in (drop i ns)) m ≡ all → m ≡ all
value-ended ns i m all h same = itself m ∙ ap (λ xs. option_and_then (value_in xs) m) (sym (drop_all i ns h)) ∙ same
  where
    itself : (m : Option b.Binding) → m ≡ option_and_then (value_in []) m
    itself None = refl
    itself (Some y) = refl

-- a list has values for so many rounds as it is long
value-there : (xs : List Binding) (k : ℕ) → k < length xs → use_of_member (value_at k (values_of xs)) ≡ has_value
value-there [] k h = absurd (omega arith)
value-there (x ∷ xs) zero h = refl
value-there (x ∷ xs) (suc k) h = value-there xs k (omega arith)

pub member-use : (xs : List Binding) (k : ℕ) → use_at k (Some (length xs)) ≡ use_of_member (value_at k (values_of xs))
member-use xs k = go (nat_lt k (length xs)) refl
  where
    go : (b : Bool) → nat_lt k (length xs) ≡ b → (if b then has_value else has_none) ≡ use_of_member (value_at k (values_of xs))
    go true e = sym (value-there xs k (ltb-true k (length xs) e))
    go false e = sym (ap use_of_member (value-past xs k (ltb-false k (length xs) e)))

pub length-Rounds : (k n : ℕ) (x : Binding) (v : Vec Binding Global) → x ≡ Rounds v → n ≡ length v.items → use_at k (Some n) ≡ use_in (k ∷ []) (Some (standing_for x))
length-Rounds k n x v is e =
    ap (λ m. use_at k (Some m)) e ∙ member-use v.items k ∙ sym (ap (λ y. use_in (k ∷ []) (Some (standing_for y))) is ∙ ap (λ y. use_in (k ∷ []) (Some y)) (standing-Rounds v))

pub use-step : (ns : List ℕ) (n k : ℕ) (inner : List ℕ) (x : Binding) (v : Vec Binding Global) (m : Option b.Binding) →
    ns ≡ n ∷ inner → x ≡ Rounds v → m ≡ value_at n (values_of v.items) → use_in (inner ++ (k ∷ [])) m ≡ use_in (ns ++ (k ∷ [])) (Some (standing_for x))
use-step ns n k [] x v m e is found = rw (e, is, found) (ap (λ y. use_in (n ∷ k ∷ []) (Some y)) (sym (standing-Rounds v)))
use-step ns n k (q ∷ inner) x v m e is found = rw (e, is, found) (ap (λ y. use_in (n ∷ q ∷ (inner ++ (k ∷ []))) (Some y)) (sym (standing-Rounds v)))
