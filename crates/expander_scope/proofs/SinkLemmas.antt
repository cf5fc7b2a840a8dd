-- What a sink takes, one event behind the other.
use Rattle.std.proofs.Common.{◌≡◌, List, [], ◌++◌, sym, ap, subst, ◌∙◌, append_assoc, append-nil}
use Rattle.expander_model.specs.Expansion.{PlacedStep}
use Rattle.expander_scope.specs.Sinks.{TakesMore}

module _ {S : Type 0} (Has : S → List PlacedStep → Type 0) where
  -- nothing is taken
  pub takes_none : (sink : S) → TakesMore Has sink sink []
  takes_none sink before has = subst (Has sink) (sym (append-nil before)) has

  -- some are taken, and then more
  pub takes_both : (old mid new : S) (xs ys : List PlacedStep) → TakesMore Has old mid xs → TakesMore Has mid new ys → TakesMore Has old new (xs ++ ys)
  takes_both old mid new xs ys first later before has = subst (Has new) (append_assoc before xs ys) (later (before ++ xs) (first before has))

  -- what was taken since the first, and what is left of the whole
  pub record StillTakes (first now : S) (whole left : List PlacedStep) : Type 0 where
    pub done : List PlacedStep
    pub takes : TakesMore Has first now done
    pub is : done ++ left ≡ whole

  pub still_first : (sink : S) (whole left : List PlacedStep) → left ≡ whole → StillTakes sink sink whole left
  still_first sink whole left is = record { done = []; takes = takes_none sink; is = is }

  pub still_more : (first old new : S) (whole xs left later : List PlacedStep) → StillTakes first old whole left → left ≡ xs ++ later → TakesMore Has old new xs
      → StillTakes first new whole later
  still_more first old new whole xs left later still is more = record {
    done = still.done ++ xs;
    takes = takes_both first old new still.done xs still.takes more;
    is = append_assoc still.done xs later ∙ ap (λ l. still.done ++ l) (sym is) ∙ still.is;
  }

  pub still_done : (first now : S) (whole left : List PlacedStep) → StillTakes first now whole left → left ≡ [] → TakesMore Has first now whole
  still_done first now whole left still none =
      subst (TakesMore Has first now) (sym (append-nil still.done) ∙ ap (λ l. still.done ++ l) (sym none) ∙ still.is) still.takes
