-- What a session has cached.
use Rattle.std.proofs.Common.{◌≡◌, ℕ, List, [], ◌∷◌, map, Option, Some, None, refl, ap, sym, subst, ◌∙◌, Global}
use Rattle.std.specs.Prelude.{All, is_some, option_map, slice_get}
use Rattle.std.specs.List.{list_any}
use Rattle.std.specs.Rc.{rc_value}
use Rattle.std.specs.declared.rc.Rc.{Rc}
use Rattle.std.proofs.lemmas.List.Elements.{All-cons, All-head, All-nil, All-tail}
use Rattle.tt.specs.Tops.{Top}
use Rattle.tt_data.specs.Forest.{Forest}
use Rattle.tt_data.specs.declared.edition.Edition.{Edition}
use Rattle.expander_scope.specs.Interning.{AreInTable, known_in, numbers_in}
use Rattle.expander_model.specs.HashedTrees.{own_top, tree_hash}
use Rattle.expander_model.specs.EqualTrees.{same_forest}
use Rattle.expander_model.specs.Definitions.{Definition}
use Rattle.expander_model.specs.Expansion.{World}
use Rattle.expander_session.specs.Caches.{IsCache, IsRight, looked_plain, piece_of}
use Rattle.expander_model.specs.Held.{Numbered}
use Rattle.expander_scope.specs.DefinitionTexts.{inner_of}
use Rattle.expander_scope.specs.DefinitionIds.{numbered_by}
use Rattle.expander_session.specs.Memos.{tree_of}
use Rattle.expander_session.specs.Reuse.{IsHeld, looked_held}
use Rattle.expander_reparse.specs.Segments.{AreSegments}
use Rattle.expander_session.specs.declared.memo_ref.MemoRef.{MemoRef}
use Rattle.expander_session.specs.declared.cache.Cache as code
use Rattle.expander_scope.specs.declared.macro_def.MacroDef.{MacroDef}
use Rattle.expander_session.specs.declared.memo.Memo.{Memo}

-- nothing is held rightly
pub nothing : (m : code.Cache) → m.plains.items ≡ [] → m.hashes.items ≡ [] → m.definitions.items ≡ [] → ((t : Top) → known_in m.by_tree t ≡ None) → AreSegments m.sources → m.links.items ≡ []
    → (world : World Definition) (edition : Edition) (depth : ℕ) → IsCache world depth edition m
nothing m plains hashes definitions none sources links world edition depth = record {
  unread = λ e. plains;
  numbers = record { within = λ t n e. absurd (no n (sym (empty t) ∙ e)); apart = λ t u n e f. absurd (no n (sym (empty t) ∙ e)) };
  have = λ t. ap is_some (empty t) ∙ ap (λ (ks : List (Rc MacroDef Global)). list_any (same_forest t) (map (λ k. inner_of (rc_value k)) ks)) (sym definitions);
  table = λ t k e. absurd (no_known k (sym (none t) ∙ e));
  listed = subst (AreInTable m.by_tree) (sym definitions) (All-nil (λ (k : Rc MacroDef Global). known_in m.by_tree (rc_value k).tree ≡ Some (rc_value k)));
  read = λ t k e. absurd (no_known k (sym (none t) ∙ e));
  right = subst (λ (qs : List (Rc Memo Global)). All (λ q. IsRight world depth (numbers_in m.by_tree) (rc_value q)) qs) (sym plains)
      (All-nil (λ q. IsRight world depth (numbers_in m.by_tree) (rc_value q)));
  hashes = hashes ∙ ap (map (λ (x : Rc Memo Global). tree_hash (tree_of (rc_value x)))) (sym plains);
  sources = sources;
  linked = λ i s l e f. absurd (no_link m.links.items links i l f);
}
  where
    empty : (t : Forest) → numbers_in m.by_tree t ≡ None
    empty t = ap (option_map (λ (k : MacroDef). k.number)) (none (own_top t))

    no : (n : ℕ) → None ≡ Some n → ⊥
    no n e = cc

    no_link : (ls : List MemoRef) → ls ≡ [] → (i : ℕ) (l : MemoRef) → slice_get ls i ≡ Some l → ⊥
    no_link [] e i l q = cc
    no_link (x ∷ ls) e i l q = cc

    no_known : (k : MacroDef) → None ≡ Some k → ⊥
    no_known k e = cc

module _ (world : World Definition) (depth : ℕ) (numbers : Forest → Option ℕ) where
  -- the count sees what is held
  pub looked_is : (q : Memo) → IsRight world depth numbers q → looked_held (piece_of world depth q) ≡ looked_plain q
  looked_is q right = λ i. record { tree = (tree_of q).inner; finds = map (λ f. (f.0, option_map (λ (d : Numbered). d.definition.piece) f.1)) (sym right.parts.finds i) }

  pub all_looked : (qs : List (Rc Memo Global)) → All (λ q. IsRight world depth numbers (rc_value q)) qs
      → map looked_held (map (λ q. piece_of world depth (rc_value q)) qs) ≡ map (λ q. looked_plain (rc_value q)) qs
  all_looked [] h = refl
  all_looked (q ∷ qs) h =
      ap (λ l. l ∷ map looked_held (map (λ x. piece_of world depth (rc_value x)) qs)) (looked_is (rc_value q) (All-head (λ x. IsRight world depth numbers (rc_value x)) q qs h))
      ∙ ap (λ ls. looked_plain (rc_value q) ∷ ls) (all_looked qs (All-tail (λ x. IsRight world depth numbers (rc_value x)) q qs h))

  -- and the laws see it as right
  pub all_held : (qs : List (Rc Memo Global)) → All (λ q. IsRight world depth numbers (rc_value q)) qs
      → All (IsHeld world depth (numbered_by numbers)) (map (λ q. piece_of world depth (rc_value q)) qs)
  all_held [] h = All-nil (IsHeld world depth (numbered_by numbers))
  all_held (q ∷ qs) h =
      All-cons (IsHeld world depth (numbered_by numbers)) (piece_of world depth (rc_value q)) (map (λ x. piece_of world depth (rc_value x)) qs)
      (All-head (λ x. IsRight world depth numbers (rc_value x)) q qs h).held
      (all_held qs (All-tail (λ x. IsRight world depth numbers (rc_value x)) q qs h))
