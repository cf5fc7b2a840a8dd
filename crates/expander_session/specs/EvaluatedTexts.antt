-- What a session shows of a text that was read, and what it has cached afterwards.
use Rattle.std.specs.Prelude.{◌≡◌, ℕ, true, List, [], ◌++◌, Option, filter, filter_map, length, map}
use Rattle.std.specs.Rc.{rc_value}
use Rattle.mbe.specs.Grammar.{Grammar}
use Rattle.tt_data.specs.Forest.{Forest}
use Rattle.tt_data.specs.declared.edition.Edition.{Edition}
use Rattle.expander_scope.specs.Interning.{numbers_in}
use Rattle.expander_session.specs.Expanded.{Expanded}
use Rattle.expander_model.specs.Held.{Kept, kept_after, mets_after, present}
use Rattle.expander_model.specs.DefinitionTrees.{definition_trees}
use Rattle.expander_session.specs.Layered.{layers}
use Rattle.expander_model.specs.Meaning.{meaning_of}
use Rattle.expander_session.specs.Caches.{IsCache, piece_of, trees_of}
use Rattle.expander_scope.specs.DefinitionIds.{AreNumbered, number_by}
use Rattle.expander_session.specs.Shown.{ShowsMeaning}
use Rattle.expander_session.specs.TextTurn.{held_of, is_unmatched}
use Rattle.expander_model.specs.World.{world}
use Rattle.expander_model.specs.declared.dialect.Dialect.{Dialect}
use Rattle.expander_session.specs.declared.cache.Cache.{Cache}

-- the pieces of a text after those of a prelude, by these ids
abbrev pub kept_in : Grammar → Edition → Dialect → ℕ → (Forest → Option ℕ) → List Forest
    → List Forest → List Kept
kept_in grammar edition dialect depth ids prelude ps =
    kept_after (world grammar edition dialect) depth (number_by ids)
    (mets_after (world grammar edition dialect) depth (number_by ids) [] prelude) ps

module _ (grammar : Grammar) (edition : Edition) (dialect : Dialect) (depth : ℕ) (old : Cache)
    (prelude ps : List Forest) where
  -- the pieces, under the ids that are cached afterwards
  abbrev pub pieces_kept : Cache → List Kept
  pieces_kept new = kept_in grammar edition dialect depth (numbers_in new.by_tree) prelude ps

  -- pieces were evaluated over a cache: what is shown of them, and what is cached afterwards
  pub record EvaluatesText (e : Expanded) (new : Cache) : Type 0 where
    pub right : IsCache (world grammar edition dialect) depth edition new
    pub was_read : new.was_read ≡ true
    pub numbers : AreNumbered old.given (numbers_in old.by_tree) (trees_of old)
        (definition_trees prelude ++ definition_trees ps) new.given (numbers_in new.by_tree)
    pub trees : trees_of new ≡ definition_trees prelude ++ definition_trees ps
    pub plains : map (λ q. piece_of (world grammar edition dialect) depth (rc_value q))
        new.plains.items ≡ filter_map held_of (pieces_kept new)
    pub shows : ShowsMeaning
        (meaning_of (layers grammar edition dialect) (map present (pieces_kept new)))
        (length (filter (is_unmatched dialect (map
        (λ q. piece_of (world grammar edition dialect) depth (rc_value q)) old.plains.items))
        (pieces_kept new))) e
