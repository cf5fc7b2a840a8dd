-- What a piece prints as a chunk, and how that is emitted.
use Rattle.std.specs.Prelude.{◌≡◌, ℕ, List, [], Bool, true, false, map, option_map}
use Rattle.bridge.specs.PrintedChunks.{IsChunkOf, ChunkState}
use Rattle.bridge.specs.Printers.{HasPut}
use Rattle.tt_data.specs.Forest.{Forest}
use Rattle.tt_data.specs.declared.span.Span.{Span}
use Rattle.expander_model.specs.Changes.{placed_with}
use Rattle.expander_model.specs.Expansion.{PlacedStep}
use Rattle.expander_scope.specs.Outcomes.{Parts, find_of, steps_for}
use Rattle.expander_scope.specs.declared.outcome.Expanding.{Expanding}
use Rattle.expander_session.specs.Emitting.{PutsOut, word_places}
use Rattle.expander_session.specs.AbsoluteSpans.{resolved_steps}
use Rattle.expander_session.specs.Memos.{finds_of, tree_of}
use Rattle.expander_model.specs.Printing.{steps_of}
use Rattle.expander_session.specs.declared.cached_output.CachedOutput.{CachedOutput}
use Rattle.expander_session.specs.declared.cached_output.CachedText.{CachedText}
use Rattle.expander_session.specs.declared.cached_output.CachedOutput.TheVariants as held
use Rattle.expander_session.specs.declared.cached_output.OwnPrint.{OwnPrint}
use Rattle.expander_session.specs.declared.emitter.Emitter.{Emitter}
use Rattle.expander_session.specs.declared.memo.Memo.{Memo}
use Rattle.expander_scope.specs.declared.offsets.Offsets.{Offsets}

-- exactly these events were printed so far
pub record HasPrinted (own : OwnPrint) (steps : List PlacedStep) : Type 0 where
  pub printer : HasPut own.printer (steps_of steps)
  pub words : own.words.items ≡ word_places steps
  pub none : own.is_empty ≡ true → steps ≡ []

-- the same, unless some were taken back
abbrev pub HasTaken : OwnPrint → List PlacedStep → Type 0
HasTaken own steps = own.is_whole ≡ true → HasPrinted own steps

-- it is what these events print, with the spans at which their definition keywords are reported
pub record IsCachedText (part : CachedText) (steps : List PlacedStep) : Type 0 where
  pub printed : IsChunkOf part.printed (steps_of steps)
  pub words : part.words.items ≡ word_places steps

-- the cached output of a tree is the text of these events, or the events themselves
abbrev pub IsOutputOf : Forest → CachedOutput → List PlacedStep → Type 0
IsOutputOf tree (held.Part p) steps = IsCachedText p steps
IsOutputOf tree (held.Steps own) steps = steps_for tree (option_map (λ s. s.items) own) ≡ steps

-- a tree's expansion has these parts of an expansion result, its output as it is cached
pub record HasParts (tree : Forest) (given : Expanding CachedOutput) (parts : Parts) : Type 0 where
  pub output : IsOutputOf tree given.output parts.steps
  pub faults : given.faults.items ≡ parts.faults
  pub finds : map find_of given.finds.items ≡ parts.finds

-- the memo has these parts of an expansion result
pub record Holds (q : Memo) (parts : Parts) : Type 0 where
  pub output : IsOutputOf (tree_of q).inner q.output parts.steps
  pub faults : q.faults.items ≡ parts.faults
  pub finds : finds_of q ≡ parts.finds

-- a chunk is emitted, its tokens and its keywords' faults at these spans; or nothing is emitted
abbrev pub PutsChunk : Emitter → Emitter → ChunkState → List Span → List Span → Bool → Type 0
PutsChunk old new part spans words true =
    (steps : List PlacedStep) (f : Span → Span) → IsChunkOf part (steps_of steps)
    → spans ≡ map f part.tokens → words ≡ map f (word_places steps)
    → PutsOut old new (map (placed_with f) steps)
PutsChunk old new part spans words false = new ≡ old

-- the chunk of a piece that starts here is emitted, at its spans in the text; or nothing is
abbrev pub EmitsCached : Emitter → Emitter → CachedText → ℕ → Offsets → Bool → Type 0
EmitsCached old new part start starts true =
    (steps : List PlacedStep) → IsCachedText part steps
    → PutsOut old new (resolved_steps start starts steps)
EmitsCached old new part start starts false = new ≡ old
