use Rattle.std.proofs.Common.{◌≡◌, drop}
use Rattle.std.specs.List.{list_any}
use Rattle.call_messages.proofs.unfit.one_fits.Given as given

-- the rules that are left have one that fits if any has
abbrev pub invariant-loop-rule : given.invariant-loop-rule
invariant-loop-rule l =
    list_any (λ s. s.fits) (drop l.rule-index l.rules) ≡ list_any (λ s. s.fits) l.rules
