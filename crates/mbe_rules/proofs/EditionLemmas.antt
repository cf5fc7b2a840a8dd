-- A function over contexts is given by the editions of the two contexts.
use Rattle.std.proofs.Common.{◌≡◌}
use Rattle.std.proofs.Math.Path.{fun_ext}
use Rattle.tt_data.specs.declared.edition.Edition.{Edition}
use Rattle.tt_data.specs.declared.span.SyntaxContext.{SyntaxContext}
use Rattle.tt_data.specs.declared.span.SyntaxContext.TheVariants.{Written, Made}
use Rattle.mbe_rules.specs.Reading.{edition_in}
use Rattle.mbe_rules.specs.declared.parse.editions.Editions.{Editions}

pub same_function : (e : Editions) (edition : SyntaxContext → Edition) → e.written ≡ edition Written → e.made ≡ edition Made →
    edition_in e ≡ edition
same_function e edition written made = fun_ext go
  where
    go : (context : SyntaxContext) → edition_in e context ≡ edition context
    go Written = written
    go Made = made
