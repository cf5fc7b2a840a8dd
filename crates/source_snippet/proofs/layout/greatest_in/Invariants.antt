use Rattle.std.proofs.Common.{◌≡◌, drop, fold, map, max}
use Rattle.source_snippet.specs.Messages.{Numbered, line_of}
use Rattle.source_snippet.proofs.layout.greatest_in.Given as goal

abbrev pub invariant-loop-quoted : goal.invariant-loop-quoted
invariant-loop-quoted l =
    fold max l.most (map (λ (m : Numbered). m.number) (map line_of (drop l.quoted-index l.quoted-items)))
    ≡ fold max l.initial.most (map (λ (m : Numbered). m.number) (map line_of l.quoted-items))
