-- Which memo or definition of the cache each piece of a text has.
use Rattle.std.specs.Prelude.{◌≡◌, ℕ, IfSome, List, Option, Some, map, slice_get}
use Rattle.std.specs.Global.{Global}
use Rattle.std.specs.Rc.{rc_value}
use Rattle.std.specs.declared.rc.Rc.{Rc}
use Rattle.tt.specs.Tops.{Top}
use Rattle.expander_session.specs.Memos.{tree_of}
use Rattle.expander_session.specs.declared.memo_ref.MemoRef.{MemoRef}
use Rattle.expander_session.specs.declared.memo_ref.MemoRef.TheVariants as link
use Rattle.expander_session.specs.declared.memo.Memo.{Memo}
use Rattle.expander_reparse.specs.declared.segment.CachedPiece.{CachedPiece}

-- the trees of plain pieces
abbrev pub plain_tops : List (Rc Memo Global) → List Top
plain_tops plains = map (λ (q : Rc Memo Global). tree_of (rc_value q)) plains

-- the tree that a reference leads to, among those of plain pieces and of definitions
abbrev pub linked : List Top → List Top → MemoRef → Option Top
linked plains definitions (link.Plain i) = slice_get plains i
linked plains definitions (link.Definition i) = slice_get definitions i

-- the reference, if there is one, leads to this tree
abbrev pub LeadsTo : List Top → List Top → Option MemoRef → Top → Type 0
LeadsTo plains definitions reference t =
    IfSome reference (λ l. linked plains definitions l ≡ Some t)

-- the references lead to these trees
abbrev pub LeadTo : List Top → List Top → List MemoRef → List Top → Type 0
LeadTo plains definitions links trees = map (linked plains definitions) links
    ≡ map (λ t. Some t) trees

-- the reference of each cached piece leads to its tree
abbrev pub AreLinked : List Top → List Top → List (Rc CachedPiece Global) → List MemoRef → Type 0
AreLinked plains definitions sources links = (i : ℕ) (s : Rc CachedPiece Global) (l : MemoRef)
    → slice_get sources i ≡ Some s → slice_get links i ≡ Some l
    → linked plains definitions l ≡ Some (rc_value (rc_value s).tree)
