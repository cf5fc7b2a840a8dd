-- What a pass over a text's pieces makes of them, over the old cache.
use Rattle.std.specs.Prelude.{◌≡◌, ℕ, ◌+◌, ◌≤◌, ◌^◌, All, List, [], ◌∷◌, ◌++◌, None, Some, filter}
use Rattle.std.specs.Prelude.{filter_map, flat_map, length, map, true}
use Rattle.std.specs.Rc.{rc_value}
use Rattle.mbe.specs.Grammar.{Grammar}
use Rattle.tt.specs.Tops.{Top}
use Rattle.tt_data.specs.Forest.{Forest}
use Rattle.tt_data.specs.declared.edition.Edition.{Edition}
use Rattle.expander_scope.specs.Interning.{AllRead, IsTable, definition_tops, numbers_in}
use Rattle.expander_model.specs.Definitions.{Definition, definition_of}
use Rattle.expander_model.specs.Expansion.{World}
use Rattle.expander_model.specs.Held.{IsMet, Kept, Met, kept_of, mets_after, numbered_world}
use Rattle.expander_model.specs.Held.{present, unnumbered, with_met}
use Rattle.expander_model.specs.DefinitionTrees.{definition_trees}
use Rattle.expander_session.specs.Layered.{layers}
use Rattle.expander_session.specs.MemoRefs.{LeadTo, plain_tops}
use Rattle.expander_model.specs.Meaning.{Layers, member_faults, output_of}
use Rattle.expander_session.specs.Caches.{IsRight, piece_of, trees_of}
use Rattle.expander_scope.specs.ScopeTable.{AreRead, HasMet, scope_in}
use Rattle.expander_scope.specs.DefinitionTexts.{HasNumbered}
use Rattle.expander_scope.specs.DefinitionIds.{number_by, numbered_by}
use Rattle.expander_scope.specs.NewNumbers.{needed}
use Rattle.expander_session.specs.Emitting.{HasOutput}
use Rattle.expander_model.specs.Pieces.{relative}
use Rattle.expander_model.specs.Limits.{expanded}
use Rattle.expander_session.specs.Memos.{AreHashes}
use Rattle.expander_session.specs.TextTurn.{held_of, is_unmatched}
use Rattle.expander_session.specs.declared.cache.Cache.{Cache}
use Rattle.expander_model.specs.World.{world}
use Rattle.expander_model.specs.declared.dialect.Dialect.{Dialect}
use Rattle.expander_session.specs.declared.evaluate.Evaluated.{Evaluated}
use Rattle.expander_session.specs.declared.evaluate.Evaluation.{Evaluation}

-- the first of these definitions need more ids than there are
pub record NeedsMore (old : Cache) (trees : List Forest) : Type 0 where
  pub front : List Forest
  pub more : List Forest
  pub are : trees ≡ front ++ more
  pub many : 2 ^ 32 ≤ old.given + needed (trees_of old) front

-- trees that have an id keep it
abbrev pub Grows : Evaluated → Evaluated → Type 0
Grows old new = (t : Forest) (n : ℕ) → numbers_in old.numbers.by_tree t ≡ Some n
    → numbers_in new.numbers.by_tree t ≡ Some n

-- the references of the pieces so far lead to these trees
abbrev pub AreLinks : Evaluated → List Top → Type 0
AreLinks now trees = LeadTo (plain_tops now.plains.items)
    (definition_tops now.numbers.definitions.items) now.links.items trees

-- one more definition may get an id and enter the scope
pub record CanDefine (old : Cache) (now : Evaluation) : Type 0 where
  pub old_table : IsTable old.by_tree
  pub old_read : AllRead now.scope.edition old.by_tree
  pub table : IsTable now.taken.numbers.by_tree
  pub table_read : AllRead now.scope.edition now.taken.numbers.by_tree
  pub scope_read : AreRead now.scope

module _ (world : World Definition) (edition : Edition) (depth : ℕ) (old : Cache)
    (layers : Layers) where
  -- these are the pieces so far, with their results, and the trees of the definitions among them
  pub record IsEvaluated (trees : List Forest) (done : List Kept) (now : Evaluated) : Type 0 where
    pub numbers : HasNumbered old.given old.by_tree (trees_of old) trees now.numbers
    pub table_read : AllRead edition now.numbers.by_tree
    pub plains : map (λ q. piece_of world depth (rc_value q)) now.plains.items
        ≡ filter_map held_of done
    pub right : All (λ q. IsRight world depth (numbers_in now.numbers.by_tree)
        (rc_value q)) now.plains.items
    pub hashes : AreHashes now.hashes.items now.plains.items
    pub steps : HasOutput now.steps (flat_map output_of (map present done))
    pub faults : now.faults.items ≡ flat_map (member_faults layers) (map present done)
    pub expanded : now.expanded ≡ length
        (filter (is_unmatched world.dialect
        (map (λ q. piece_of world depth (rc_value q)) old.plains.items)) done)

  -- and these are the definitions in scope, nearest first
  pub record HasTaken (before : List Met) (trees : List Forest) (done : List Kept)
      (now : Evaluation) : Type 0 where
    pub met : HasMet world.dialect now.scope before
    pub known : All (IsMet (numbered_by (numbers_in now.taken.numbers.by_tree))) before
    pub read : AreRead now.scope
    pub edition_is : now.scope.edition ≡ edition
    pub taken : IsEvaluated trees done now.taken

-- one more definition of a prelude is in scope
abbrev pub Imports : Grammar → Edition → Dialect → ℕ → Cache → Forest → Evaluation → Evaluation
    → Type 0
Imports grammar edition dialect depth old piece now next =
    let w : World Definition = world grammar edition dialect in
    let l : Layers = layers grammar edition dialect in
    let number_of : Forest → ℕ = number_by (numbers_in next.taken.numbers.by_tree) in
    (before : List Met) (trees : List Forest) (done : List Kept)
    → HasTaken w edition depth old l before trees done now
    → HasTaken w edition depth old l
    (with_met w depth number_of piece (definition_of (relative piece)) before)
    (trees ++ definition_trees (piece ∷ [])) done next

-- a prelude is in scope, and no piece of the text is evaluated
abbrev pub HasImported : Grammar → Edition → Dialect → ℕ → Cache → List Forest → Evaluation → Type 0
HasImported grammar edition dialect depth old prelude now =
    let w : World Definition = world grammar edition dialect in
    let number_of : Forest → ℕ = number_by (numbers_in now.taken.numbers.by_tree) in
    HasTaken w edition depth old (layers grammar edition dialect)
    (mets_after w depth number_of [] prelude) (definition_trees prelude) [] now

-- one more piece is evaluated
abbrev pub Evaluates : Grammar → Edition → Dialect → ℕ → Cache → Forest → Evaluation → Evaluation
    → Type 0
Evaluates grammar edition dialect depth old piece now next =
    let w : World Definition = world grammar edition dialect in
    let l : Layers = layers grammar edition dialect in
    let number_of : Forest → ℕ = number_by (numbers_in next.taken.numbers.by_tree) in
    (before : List Met) (trees : List Forest) (done : List Kept)
    → HasTaken w edition depth old l before trees done now
    → HasTaken w edition depth old l
    (with_met w depth number_of piece (definition_of (relative piece)) before)
    (trees ++ definition_trees (piece ∷ []))
    (done ++ kept_of w depth number_of before piece (definition_of (relative piece)) ∷ []) next

-- the piece is plain, and its expansion makes too many tokens
abbrev pub MakesTooMany : Grammar → Edition → Dialect → ℕ → Forest → Evaluation → Type 0
MakesTooMany grammar edition dialect depth piece now =
    let w : World Definition = world grammar edition dialect in
    (definition_of (relative piece) ≡ None)
    × ((expanded (numbered_world w) unnumbered (scope_in now.scope) depth (relative piece)).bursts
    ≡ true)
