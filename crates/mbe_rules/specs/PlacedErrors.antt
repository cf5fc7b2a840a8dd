-- Equality by `==` of an error with its span.
use Rattle.std.specs.Prelude.{Bool, ◌&&◌}
use Rattle.std.specs.Cmp.{IsEquivalence, and_equiv, on_equiv}
use Rattle.tt_data.specs.declared.span.Span.{Span}
use Rattle.tt_data.specs.contracts.span.SpanPartialEq.TheImpl as of_span
use Rattle.tt_data.specs.contracts.span.SpanEq.TheImpl.Laws as span_laws
use Rattle.mbe_rules.specs.declared.errors.ExpandErrorKind.{ExpandErrorKind}
use Rattle.mbe_rules.specs.contracts.errors.ExpandErrorKindPartialEq.TheImpl as of_kind
use Rattle.mbe_rules.specs.contracts.errors.ExpandErrorKindEq.TheImpl.Laws as kind_laws

-- two are equal if their spans and their kinds are
abbrev pub same_error : Span × ExpandErrorKind → Span × ExpandErrorKind → Bool
same_error a b = of_span.ghosts.eq a.0 b.0 && of_kind.ghosts.eq a.1 b.1

-- this is an equivalence
pub same_error_equiv : IsEquivalence same_error
same_error_equiv = and_equiv (on_equiv (λ e. e.0) span_laws.laws-law) (on_equiv (λ e. e.1) kind_laws.laws-law)
