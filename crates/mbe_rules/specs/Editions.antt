-- The edition of a context's identifiers, as a function that is passed in answers it.
use Rattle.std.specs.Prelude.{◌≡◌}
use Rattle.tt_data.specs.declared.edition.Edition.{Edition}
use Rattle.tt_data.specs.declared.span.SyntaxContext.{SyntaxContext}

-- the only answer about a context is that of this function
abbrev pub IsAnsweredBy : (SyntaxContext → Edition → Type 0) → (SyntaxContext → Edition) → Type 0
IsAnsweredBy answered edition = (context : SyntaxContext) (e : Edition) → answered context e → e ≡ edition context
