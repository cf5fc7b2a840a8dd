-- Whether a cached piece is a definition, by what its reference leads to.
use Rattle.std.proofs.Common.{◌≡◌, ◌∙◌, ℕ, zero, suc, Bor, Global, true, false, List, [], ◌∷◌, map, Option, Some, None, refl, ap, sym, get_or}
use Rattle.std.specs.Prelude.{All, IfSome, is_some, slice_get}
use Rattle.std.specs.Rc.{rc_value}
use Rattle.std.specs.declared.rc.Rc.{Rc}
use Rattle.std.proofs.lemmas.List.Elements.{All-cons, All-head, All-nil, All-tail}
use Rattle.std.proofs.lemmas.Option.{slice_get_within}
use Rattle.tt.specs.Tops.{Top}
use Rattle.tt_data.specs.Forest.{Forest}
use Rattle.expander_scope.specs.Interning.{AreInTable, definition_tops, known_in}
use Rattle.expander_model.specs.Definitions.{Definition, definition_of}
use Rattle.expander_model.specs.Expansion.{World}
use Rattle.expander_session.specs.MemoRefs.{plain_tops}
use Rattle.expander_session.specs.Caches.{IsRight}
use Rattle.expander_session.specs.Memos.{IsPlain, tree_of}
use Rattle.expander_scope.specs.declared.interner.Interner.{Interner}
use Rattle.expander_scope.specs.declared.macro_def.MacroDef.{MacroDef}
use Rattle.expander_session.specs.declared.memo.Memo.{Memo}
use Rattle.expander_reparse.proofs.ListLemmas.{stands_at}
use Rattle.expander_session.proofs.EvaluateLemmas.{all_at}

-- a tree that stands among those of a list is the one of a value there
mapped_from : {X : Type 0} (f : X → Top) (xs : List X) (i : ℕ) (t : Top) → slice_get (map f xs) i ≡ Some t → (x : X) × (slice_get xs i ≡ Some x) × (f x ≡ t)
mapped_from f [] i t e = cc
mapped_from f (z ∷ xs) zero t e = (z, refl, cc)
mapped_from f (z ∷ xs) (suc i) t e = mapped_from f xs i t e

-- the tree of a plain piece is no definition
pub plain_here : (qs : List (Rc Memo Global)) (i : ℕ) (t : Top) → All (λ q. IsPlain (rc_value q)) qs → slice_get (plain_tops qs) i ≡ Some t → is_some (definition_of t.inner) ≡ false
plain_here qs i t plain e =
    let at = mapped_from (λ (q : Rc Memo Global). tree_of (rc_value q)) qs i t e in
    ap (λ (x : Top). is_some (definition_of x.inner)) (sym at.2) ∙ all_at (λ q. IsPlain (rc_value q)) qs i at.0 plain at.1

-- the tree of a definition is one
pub definition_here : (ks : List (Rc MacroDef Global)) (i : ℕ) (t : Top) → slice_get (definition_tops ks) i ≡ Some t → is_some (definition_of t.inner) ≡ true
definition_here ks i t e =
    let at = mapped_from (λ (k : Rc MacroDef Global). (rc_value k).tree) ks i t e in
    ap (λ (x : Top). is_some (definition_of x.inner)) (sym at.2) ∙ (rc_value at.0).is_definition

-- and the definition there is the one that its tree has
pub listed_got : (table : Interner) (ks : List (Rc MacroDef Global)) (i : ℕ) (t : Top) → AreInTable table ks → slice_get (definition_tops ks) i ≡ Some t
    → (o : Option (Bor (Rc MacroDef Global))) → IfSome o (λ k. k.now ≡ get_or ks i k.now) → IfSome o (λ k. known_in table t ≡ Some k.now.value)
listed_got table ks i t listed e None is = tt
listed_got table ks i t listed e (Some k) is =
    let at = mapped_from (λ (k : Rc MacroDef Global). (rc_value k).tree) ks i t e in
    let same : at.0 ≡ k.now = some_is at.0 k.now (sym at.1 ∙ stands_at ks i k.now (slice_get_within ks i at.0 at.1) is) in
    ap (known_in table) (sym at.2) ∙ all_at (λ (x : Rc MacroDef Global). known_in table (rc_value x).tree ≡ Some (rc_value x)) ks i at.0 listed at.1
    ∙ ap (λ (x : Rc MacroDef Global). Some (rc_value x)) same
  where
    some_is : {X : Type 0} (a b : X) → Some a ≡ Some b → a ≡ b
    some_is a b q = cc

-- no plain piece is a definition
pub all_plain : (world : World Definition) (depth : ℕ) (numbers : Forest → Option ℕ) (qs : List (Rc Memo Global)) → All (λ q. IsRight world depth numbers (rc_value q)) qs → All (λ q. IsPlain (rc_value q)) qs
all_plain world depth numbers [] h = All-nil (λ q. IsPlain (rc_value q))
all_plain world depth numbers (q ∷ qs) h =
    All-cons (λ x. IsPlain (rc_value x)) q qs (All-head (λ x. IsRight world depth numbers (rc_value x)) q qs h).plain
    (all_plain world depth numbers qs (All-tail (λ x. IsRight world depth numbers (rc_value x)) q qs h))
