use Rattle.std.proofs.Common.{sym, ◌∷◌, reverse, subst}
use Rattle.mbe_matcher.specs.Bound.{map_of}
use Rattle.mbe_transcriber.specs.Tasks.{IsBurstIn, Steps, outcome}
use Rattle.mbe_transcriber.proofs.transcriber.Transcription.step.Goals as goal

pub returns-in-Items-clause-left : goal.returns-in-Items-clause-left
returns-in-Items-clause-left g c = λ mark is.
    subst
    (λ t. Steps c.put_items.result c.put_items.new.out.tree
    (outcome mark (map_of c.args.bindings.now) (t ∷ reverse c.args.self.now.tasks.items) c.args.self.now.rounds.items c.args.out.now.tree)
    (outcome mark (map_of c.args.bindings.now) (reverse c.put_items.new.self.tasks.items) c.put_items.new.self.rounds.items c.put_items.new.out.tree))
    (sym c.in-Items.is) (c.put_items.ensures.left mark is)

pub returns-in-Later-clause-left : goal.returns-in-Later-clause-left
returns-in-Later-clause-left g c = λ mark is.
    subst
    (λ t. Steps c.next_round.result c.next_round.new.out.tree
    (outcome mark (map_of c.args.bindings.now) (t ∷ reverse c.args.self.now.tasks.items) c.args.self.now.rounds.items c.args.out.now.tree)
    (outcome mark (map_of c.args.bindings.now) (reverse c.next_round.new.self.tasks.items) c.next_round.new.self.rounds.items c.next_round.new.out.tree))
    (sym c.in-Later.is) (c.next_round.ensures.left mark is)

pub returns-in-Later-clause-tokens : goal.returns-in-Later-clause-tokens
returns-in-Later-clause-tokens g c = λ mark is.
    subst
    (λ t. IsBurstIn c.next_round.result
    (outcome mark (map_of c.args.bindings.now) (t ∷ reverse c.args.self.now.tasks.items) c.args.self.now.rounds.items c.args.out.now.tree))
    (sym c.in-Later.is) (c.next_round.ensures.tokens mark is)
