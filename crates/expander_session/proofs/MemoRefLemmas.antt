-- One more reference of a piece to its memo or definition.
use Rattle.std.proofs.Common.{◌≡◌, ℕ, zero, suc, List, [], ◌∷◌, ◌++◌, map, length, Option, Some, None, refl, ap, sym, subst, ◌∙◌, Global}
use Rattle.std.specs.Prelude.{slice_get}
use Rattle.std.specs.Rc.{rc_value}
use Rattle.std.specs.declared.rc.Rc.{Rc}
use Rattle.std.proofs.lemmas.List.{map-append}
use Rattle.tt.specs.Tops.{Top}
use Rattle.expander_session.specs.MemoRefs.{AreLinked, LeadTo, linked, plain_tops}
use Rattle.expander_scope.specs.Interning.{definition_tops}
use Rattle.expander_reparse.specs.RelativePieces.{tree_at}
use Rattle.expander_reparse.specs.Reparsing.{AreTheirs, IsMet}
use Rattle.expander_session.specs.Memos.{tree_of}
use Rattle.expander_reparse.specs.Segments.{all_in}
use Rattle.expander_session.specs.declared.memo_ref.MemoRef.{MemoRef}
use Rattle.expander_session.specs.declared.memo_ref.MemoRef.TheVariants as link
use Rattle.expander_scope.specs.declared.macro_def.MacroDef.{MacroDef}
use Rattle.expander_reparse.specs.declared.piece.Piece.{Piece}
use Rattle.expander_session.specs.declared.memo.Memo.{Memo}
use Rattle.expander_reparse.specs.declared.segment.CachedPiece.{CachedPiece}
use Rattle.expander_reparse.specs.declared.segment.Segments.{Segments}
use Rattle.expander_reparse.proofs.ListLemmas.{get_front, get_none}

-- what stands at a place stands there in a longer list
stays : (xs ys : List Top) (i : ℕ) (t : Top) → slice_get xs i ≡ Some t → slice_get (xs ++ ys) i ≡ Some t
stays xs ys i t e = get_front xs ys i (get_none xs t i e) ∙ e

leads_on : (ps qs ds es : List Top) (l : MemoRef) (t : Top) → linked ps ds l ≡ Some t → linked (ps ++ qs) (ds ++ es) l ≡ Some t
leads_on ps qs ds es (link.Plain i) t e = stays ps qs i t e
leads_on ps qs ds es (link.Definition i) t e = stays ds es i t e

lead_on : (ps qs ds es : List Top) (links : List MemoRef) (trees : List Top) → LeadTo ps ds links trees → LeadTo (ps ++ qs) (ds ++ es) links trees
lead_on ps qs ds es [] [] h = refl
lead_on ps qs ds es [] (t ∷ trees) h = cc
lead_on ps qs ds es (l ∷ links) [] h = cc
lead_on ps qs ds es (l ∷ links) (t ∷ trees) h =
    ap (λ o. o ∷ map (linked (ps ++ qs) (ds ++ es)) links) (leads_on ps qs ds es l t (first (linked ps ds l) (Some t) (map (linked ps ds) links) (map (λ (x : Top). Some x) trees) h))
    ∙ ap (λ os. Some t ∷ os) (lead_on ps qs ds es links trees (rest (linked ps ds l) (Some t) (map (linked ps ds) links) (map (λ (x : Top). Some x) trees) h))
  where
    first : {X : Type 0} (x y : X) (xs ys : List X) → x ∷ xs ≡ y ∷ ys → x ≡ y
    first x y xs ys q = cc

    rest : {X : Type 0} (x y : X) (xs ys : List X) → x ∷ xs ≡ y ∷ ys → xs ≡ ys
    rest x y xs ys q = cc

-- one more link, which leads to this tree
one_more : (ps ds : List Top) (links : List MemoRef) (trees : List Top) (l : MemoRef) (t : Top) → LeadTo ps ds links trees → linked ps ds l ≡ Some t → LeadTo ps ds (links ++ l ∷ []) (trees ++ t ∷ [])
one_more ps ds links trees l t h e =
    map-append (linked ps ds) links (l ∷ []) ∙ ap (λ os. os ++ linked ps ds l ∷ []) h ∙ ap (λ o. map (λ (x : Top). Some x) trees ++ o ∷ []) e
    ∙ sym (map-append (λ (x : Top). Some x) trees (t ∷ []))

last_of : {X : Type 0} (f : X → Top) (xs : List X) (t : Top) → slice_get (map f xs ++ t ∷ []) (length xs) ≡ Some t
last_of f [] t = refl
last_of f (x ∷ xs) t = last_of f xs t

more_nothing : (xs : List Top) → xs ++ [] ≡ xs
more_nothing [] = refl
more_nothing (x ∷ xs) = ap (λ ys. x ∷ ys) (more_nothing xs)

-- one more plain piece
pub plain_more : (plains more : List (Rc Memo Global)) (q : Rc Memo Global) (ds : List Top) (links next : List MemoRef) (trees : List Top) (t : Top)
    → more ≡ plains ++ q ∷ [] → tree_of (rc_value q) ≡ t → next ≡ links ++ link.Plain (length plains) ∷ []
    → LeadTo (plain_tops plains) ds links trees → LeadTo (plain_tops more) ds next (trees ++ t ∷ [])
plain_more plains more q ds links next trees t more_is tree_is next_is h =
    let tops : plain_tops more ≡ plain_tops plains ++ t ∷ [] =
    ap plain_tops more_is ∙ map-append (λ (q : Rc Memo Global). tree_of (rc_value q)) plains (q ∷ []) ∙ ap (λ (x : Top). plain_tops plains ++ x ∷ []) tree_is in
    let on : LeadTo (plain_tops plains ++ t ∷ []) ds links trees =
    subst (λ es. LeadTo (plain_tops plains ++ t ∷ []) es links trees) (more_nothing ds) (lead_on (plain_tops plains) (t ∷ []) ds [] links trees h) in
    subst (λ ps. LeadTo ps ds next (trees ++ t ∷ [])) (sym tops)
    (subst (λ ls. LeadTo (plain_tops plains ++ t ∷ []) ds ls (trees ++ t ∷ [])) (sym next_is)
    (one_more (plain_tops plains ++ t ∷ []) ds links trees (link.Plain (length plains)) t on (last_of (λ (q : Rc Memo Global). tree_of (rc_value q)) plains t)))

-- one more definition
pub definition_more : (knowns : List (Rc MacroDef Global)) (more : List (Rc MacroDef Global)) (ps : List Top) (links next : List MemoRef) (trees : List Top) (t : Top)
    → definition_tops more ≡ definition_tops knowns ++ t ∷ [] → next ≡ links ++ link.Definition (length knowns) ∷ []
    → LeadTo ps (definition_tops knowns) links trees → LeadTo ps (definition_tops more) next (trees ++ t ∷ [])
definition_more knowns more ps links next trees t tops next_is h =
    let on : LeadTo ps (definition_tops knowns ++ t ∷ []) links trees =
    subst (λ qs. LeadTo qs (definition_tops knowns ++ t ∷ []) links trees) (more_nothing ps) (lead_on ps [] (definition_tops knowns) (t ∷ []) links trees h) in
    subst (λ ds. LeadTo ps ds next (trees ++ t ∷ [])) (sym tops)
    (subst (λ ls. LeadTo ps (definition_tops knowns ++ t ∷ []) ls (trees ++ t ∷ [])) (sym next_is)
    (one_more ps (definition_tops knowns ++ t ∷ []) links trees (link.Definition (length knowns)) t on (last_of (λ (k : Rc MacroDef Global). (rc_value k).tree) knowns t)))

-- ---- what is held afterwards

mapped_at : {X Y : Type 0} (f : X → Y) (xs : List X) (i : ℕ) (x : X) → slice_get xs i ≡ Some x → slice_get (map f xs) i ≡ Some (f x)
mapped_at f [] i x e = cc
mapped_at f (z ∷ xs) zero x e = let same : z ≡ x = cc in ap (λ w. Some (f w)) same
mapped_at f (z ∷ xs) (suc i) x e = mapped_at f xs i x e

mapped_from : {X Y : Type 0} (f : X → Y) (xs : List X) (i : ℕ) (y : Y) → slice_get (map f xs) i ≡ Some y → (x : X) × (slice_get xs i ≡ Some x) × (f x ≡ y)
mapped_from f [] i y e = cc
mapped_from f (z ∷ xs) zero y e = (z, refl, cc)
mapped_from f (z ∷ xs) (suc i) y e = mapped_from f xs i y e

pub links_are : (ps ds : List Top) (links : List MemoRef) (own : List Piece) (sources : Segments) → LeadTo ps ds links (map tree_at own) → AreTheirs sources own
    → AreLinked ps ds (all_in sources) links
links_are ps ds links own sources h theirs = λ i s l s_is l_is.
    let there = mapped_from (λ (t : Top). Some t) (map tree_at own) i (linked ps ds l) (ap (λ os. slice_get os i) (sym h) ∙ mapped_at (linked ps ds) links i l l_is) in
    let o = mapped_from tree_at own i there.0 there.1 in
    sym there.2 ∙ ap (λ (t : Top). Some t) (sym o.2 ∙ sym (theirs i s o.0 s_is o.1))

-- what a piece that was met is linked to
pub met_link : (ps ds : List Top) (held : Segments) (links : List MemoRef) (met : Option ℕ) (t : Top) → AreLinked ps ds (all_in held) links → IsMet held met t
    → (i : ℕ) → met ≡ Some i → (l : MemoRef) → slice_get links i ≡ Some l → linked ps ds l ≡ Some t
met_link ps ds held links None t are is i e l l_is = cc
met_link ps ds held links (Some j) t are is i e l l_is =
    let same : j ≡ i = cc in
    are i is.1.0 l (ap (slice_get (all_in held)) (sym same) ∙ is.1.1) l_is
    ∙ ap (λ (s : CachedPiece). Some (rc_value s.tree)) is.1.2 ∙ ap (λ (x : Top). Some x) is.2
