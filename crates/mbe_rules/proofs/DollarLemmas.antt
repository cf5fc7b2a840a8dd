-- What a `$` before braces begins.
use Rattle.std.proofs.Common.{◌≡◌, refl, ap, Bool, true, false, Option, Some, None, option_map, if◌then◌else◌}
use Rattle.tt_data.specs.Forest.{Forest, group}
use Rattle.tt_data.specs.declared.delimiter.Delimiter.{Delimiter}
use Rattle.tt_data.specs.declared.delimiter.DelimiterKind.TheVariants.{Brace}
use Rattle.tt_data.specs.declared.edition.Edition.{Edition}
use Rattle.tt_data.specs.declared.leaf.Punct.{Punct}
use Rattle.tt_data.specs.declared.span.SyntaxContext.{SyntaxContext}
use Rattle.mbe_rules.specs.Expressions.{expression_in}
use Rattle.mbe_rules.specs.Items.{Dollar, dollar, done, item}
use Rattle.mbe_rules.specs.Parsed.{or_fault, unexpected, expected}
use Rattle.mbe_rules.specs.Patterns.{in_template, begun, dollar_head}
use Rattle.mbe_rules.specs.Reading.{expression_read, head_read}
use Rattle.mbe_rules.specs.Text.{same_kind}

pub braces-head : (edition : SyntaxContext → Edition) (p : Punct) (d : Delimiter) (inner rest : Forest) → d.kind ≡ Brace →
    expression_read p inner rest ≡ head_read p (group d inner rest) (dollar_head edition in_template (group d inner rest))
braces-head edition p d inner rest is_brace = go (same_kind d.kind Brace) (ap (λ k. same_kind k Brace) is_brace) (expression_in inner)
  where
    go : (b : Bool) → b ≡ true → (o : Option Dollar) →
        or_fault (option_map (λ x. (item (dollar x p.span) done, rest)) o) (unexpected "invalid metavariable expression")
        ≡ head_read p (group d inner rest)
        (if b then or_fault (option_map (λ x. begun x 1) o) (unexpected "invalid metavariable expression")
        else expected "expected `$()` repetition or `${}` expression")
    go true h None = refl
    go true h (Some x) = refl
    go false h o = absurd (cc h)
