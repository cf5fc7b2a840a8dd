-- What a session has cached of the last text that was read.
use Rattle.std.specs.Prelude.{◌≡◌, ℕ, false, All, List, [], Option, Some, None, if◌then◌else◌, map}
use Rattle.std.specs.Prelude.{option_map}
use Rattle.std.specs.Rc.{rc_value}
use Rattle.bridge.specs.ReadText.{text_top}
use Rattle.tt_data.specs.Forest.{Forest}
use Rattle.tt_data.specs.declared.edition.Edition.{Edition}
use Rattle.expander_session.specs.Agreement.{scope_of}
use Rattle.expander_scope.specs.Interning.{AllRead, AreInTable, IsTable, definition_tops}
use Rattle.expander_scope.specs.Interning.{numbers_in}
use Rattle.expander_session.specs.Count.{Looked}
use Rattle.expander_model.specs.Definitions.{Definition}
use Rattle.expander_model.specs.Expansion.{World}
use Rattle.expander_model.specs.Held.{Numbered, numbered_world, unnumbered}
use Rattle.expander_model.specs.Limits.{expanded}
use Rattle.expander_session.specs.CachedOutputs.{Holds}
use Rattle.expander_session.specs.MemoRefs.{AreLinked, LeadsTo, plain_tops}
use Rattle.expander_scope.specs.DefinitionTexts.{inner_of}
use Rattle.expander_scope.specs.DefinitionIds.{AreNumbers, HaveNumbers, numbered_by}
use Rattle.expander_scope.specs.Outcomes.{parts_of}
use Rattle.expander_session.specs.Memos.{AreHashes, IsPlain, finds_of, tree_of}
use Rattle.expander_session.specs.Reuse.{HeldPiece, IsHeld}
use Rattle.expander_reparse.specs.Segments.{AreSegments, all_in}
use Rattle.expander_session.specs.declared.cache.Cache as code
use Rattle.expander_session.specs.declared.memo.Memo.{Memo}
use Rattle.expander_session.specs.declared.memo_ref.MemoRef.{MemoRef}
use Rattle.tt.specs.Tops.{Top}

-- a plain piece, as the count sees it
abbrev pub looked_plain : Memo → Looked
looked_plain q = record {
  tree = (tree_of q).inner;
  finds = map (λ f. (f.0, option_map (λ (d : Numbered). d.definition.piece) f.1)) (finds_of q);
}

-- the plain pieces, as the count sees them: none before the first text that was read
abbrev pub held_in : code.Cache → Option (List Looked)
held_in m = if m.was_read then Some (map (λ q. looked_plain (rc_value q)) m.plains.items) else None

-- the trees of the definitions
abbrev pub trees_of : code.Cache → List Forest
trees_of m = map (λ k. inner_of (rc_value k)) m.definitions.items

-- the reference, if there is one, leads to the memo or definition that is cached for this tree
abbrev pub LinksTo : code.Cache → Option MemoRef → Top → Type 0
LinksTo m link t = LeadsTo (plain_tops m.plains.items) (definition_tops m.definitions.items) link t

module _ (world : World Definition) (depth : ℕ) where
  -- a plain piece with its whole expansion, each name resolved as its memo says
  abbrev pub piece_of : Memo → HeldPiece
  piece_of q = record {
    tree = (tree_of q).inner;
    outcome = expanded (numbered_world world) unnumbered (scope_of (finds_of q)) depth
        (tree_of q).inner;
  }

  -- a memo's tree is plain and under the top of a text, and its parts are those of its expansion
  pub record IsRight (numbers : Forest → Option ℕ) (q : Memo) : Type 0 where
    pub top : (tree_of q).delimiter ≡ text_top
    pub parts : Holds q (parts_of (piece_of q).outcome)
    pub held : IsHeld world depth (numbered_by numbers) (piece_of q)
    pub plain : IsPlain q

  -- all that is cached is right, by the ids of the cached definitions
  pub record IsCache (edition : Edition) (m : code.Cache) : Type 0 where
    -- no memo before the first text that was read
    pub unread : m.was_read ≡ false → m.plains.items ≡ []
    pub numbers : AreNumbers m.given (numbers_in m.by_tree)
    pub have : HaveNumbers (numbers_in m.by_tree) (trees_of m)
    pub table : IsTable m.by_tree
    pub listed : AreInTable m.by_tree m.definitions.items
    pub read : AllRead edition m.by_tree
    pub right : All (λ q. IsRight (numbers_in m.by_tree) (rc_value q)) m.plains.items
    pub hashes : AreHashes m.hashes.items m.plains.items
    pub sources : AreSegments m.sources
    pub linked : AreLinked (plain_tops m.plains.items) (definition_tops m.definitions.items)
        (all_in m.sources) m.links.items
