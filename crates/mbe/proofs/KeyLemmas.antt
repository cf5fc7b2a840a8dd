-- Matchers that begin with another identifier than the argument does.
use Rattle.std.proofs.Common.{◌≡◌, refl, sym, ap, ◌∙◌, ℕ, ◌<◌, Bool, true, false, not, List, [], ◌∷◌, map, length, get_or, Option, Some, None}
use Rattle.std.proofs.lemmas.List.{get_or-map, length-map}
use Rattle.std.proofs.lemmas.Slice.Eq.{bytes_eq-Decides}
use Rattle.tt_data.specs.Forest.{Forest, empty, leaf, group}
use Rattle.tt_data.specs.declared.leaf.Ident.{Ident}
use Rattle.tt_data.specs.declared.leaf.Leaf.TheVariants as as_leaf
use Rattle.tt.specs.FirstTrees.{first_ident}
use Rattle.mbe_rules.specs.Items.{Items, done, item, word, puncts, lifetime, dollar, group_of, repetition}
use Rattle.mbe_rules.specs.Ops.{items_of, rule_of}
use Rattle.mbe_rules.specs.Text.{same_text}
use Rattle.mbe_rules.specs.declared.rules.Rule.{Rule}
use Rattle.mbe_transcriber.specs.mbe_matcher.Blocked.{is_blocked}
use Rattle.mbe.specs.Keys.{first_key, key_from, keys_of, name_key}
use Rattle.mbe_transcriber.specs.mbe_matcher.Units.{place}
use Rattle.mbe_transcriber.proofs.LentLemmas as lent
use Rattle.mbe_transcriber.proofs.LentLemmas.{unnamed}

-- a list that begins with a name
pub a_name_first : (f : Forest) (x : Ident × Forest) → first_ident f ≡ Some x → f ≡ leaf (as_leaf.Ident x.0) x.1
a_name_first = lent.an_ident

pub no_name : (f : Forest) → first_ident f ≡ None → None ≡ name_key f
no_name empty e = refl
no_name (group d inner rest) e = refl
no_name (leaf (as_leaf.Ident i) rest) e = absurd (cc e)
no_name (leaf (as_leaf.Literal l) rest) e = refl
no_name (leaf (as_leaf.Punct p) rest) e = refl

unkeyed : (f : Forest) → None ≡ name_key f → first_ident f ≡ None
unkeyed empty e = refl
unkeyed (group d inner rest) e = refl
unkeyed (leaf (as_leaf.Ident i) rest) e = absurd (cc e)
unkeyed (leaf (as_leaf.Literal l) rest) e = refl
unkeyed (leaf (as_leaf.Punct p) rest) e = refl

-- the argument begins with no name
pub no_name_here : (items : Items) (f : Forest) (k : ℕ) → Some k ≡ first_key items → None ≡ name_key f → is_blocked items (place f []) ≡ true
no_name_here (item (word (as_leaf.Ident i)) rest) f k e n = ap not (sym (unnamed i.sym f [] (unkeyed f n)))
no_name_here (item (word (as_leaf.Literal l)) rest) f k e n = absurd (cc e)
no_name_here (item (word (as_leaf.Punct p)) rest) f k e n = absurd (cc e)
no_name_here (item (puncts ps) rest) f k e n = absurd (cc e)
no_name_here (item (lifetime q i) rest) f k e n = absurd (cc e)
no_name_here (item (dollar d s) rest) f k e n = absurd (cc e)
no_name_here done f k e n = absurd (cc e)
no_name_here (group_of d inner rest) f k e n = absurd (cc e)
no_name_here (repetition body sep op rest) f k e n = absurd (cc e)

some-same : {a b : ℕ} → (let x : Option ℕ = Some a in x) ≡ Some b → a ≡ b
some-same e = cc

other-text : (a b : List ℕ) → (key_from 0 a ≡ key_from 0 b → ⊥) → not (same_text a b) ≡ true
other-text a b h = go (same_text a b) refl
  where
    go : (t : Bool) → same_text a b ≡ t → not t ≡ true
    go false e = refl
    go true e = absurd (h (ap (key_from 0) ((bytes_eq-Decides a b).0 e)))

-- the argument begins with another name
pub another_name : (items : Items) (f : Forest) (k n : ℕ) → Some k ≡ first_key items → Some n ≡ name_key f → (k ≡ n → ⊥) → is_blocked items (place f []) ≡ true
another_name (item (word (as_leaf.Ident i)) rest) (leaf (as_leaf.Ident j) more) k n e m h =
    other-text i.sym j.sym (λ s. h (some-same e ∙ s ∙ sym (some-same m)))
another_name (item (word (as_leaf.Ident i)) rest) empty k n e m h = absurd (cc m)
another_name (item (word (as_leaf.Ident i)) rest) (group d inner more) k n e m h = absurd (cc m)
another_name (item (word (as_leaf.Ident i)) rest) (leaf (as_leaf.Literal l) more) k n e m h = absurd (cc m)
another_name (item (word (as_leaf.Ident i)) rest) (leaf (as_leaf.Punct p) more) k n e m h = absurd (cc m)
another_name (item (word (as_leaf.Literal l)) rest) f k n e m h = absurd (cc e)
another_name (item (word (as_leaf.Punct p)) rest) f k n e m h = absurd (cc e)
another_name (item (puncts ps) rest) f k n e m h = absurd (cc e)
another_name (item (lifetime q i) rest) f k n e m h = absurd (cc e)
another_name (item (dollar d s) rest) f k n e m h = absurd (cc e)
another_name done f k n e m h = absurd (cc e)
another_name (group_of d inner rest) f k n e m h = absurd (cc e)
another_name (repetition body sep op rest) f k n e m h = absurd (cc e)

-- ---- the numbers of rules

abbrev rule-key : Rule → Option ℕ
rule-key r = first_key (items_of r.pattern.items)

keys-map : (rs : List Rule) → keys_of (map rule_of rs) ≡ map rule-key rs
keys-map [] = refl
keys-map (r ∷ rs) = ap (λ ks. rule-key r ∷ ks) (keys-map rs)

-- there is one for each rule
pub as-many : (rs : List Rule) (ks : List (Option ℕ)) → ks ≡ keys_of (map rule_of rs) → length ks ≡ length rs
as-many rs ks e = ap length (e ∙ keys-map rs) ∙ length-map rs rule-key

-- that of a rule stands at its place
pub key-at : (rs : List Rule) (ks : List (Option ℕ)) (i : ℕ) (x : Rule) (k d : Option ℕ) → ks ≡ keys_of (map rule_of rs) → i < length rs → x ≡ get_or rs i x →
    k ≡ get_or ks i d → k ≡ first_key (items_of x.pattern.items)
key-at rs ks i x k d e h r t =
    t ∙ ap (λ l. get_or l i d) (e ∙ keys-map rs) ∙ get_or-map rule-key rs i x d h ∙ ap rule-key (sym r)
