-- Which options words name, for conditional compilation, and why they name none.
use Rattle.std.specs.Prelude.{◌≡◌, ℕ, List, Some, None, Any, map, ⊤}
use Rattle.bridge.specs.ReadText.{HasTooMany}
use Rattle.bridge.specs.TokenSteps.{text_steps}
use Rattle.cfg_options.specs.Options.{options_of}
use Rattle.cfg_options.specs.Words.{option_of}
use Rattle.cfg_options.specs.declared.options.CfgOptions.{CfgOptions}
use Rattle.expander.specs.NamedOptions.{no_options, with_named}
use Rattle.filgordd_c.specs.Calls.{NoText}
use Rattle.filgordd_c.specs.declared.code.Code.{Code}
use Rattle.filgordd_c.specs.declared.code.Code.TheVariants as code
use Rattle.filgordd_c.specs.declared.conditions.Word.{Word}

-- the bytes of words
abbrev pub texts : List Word → List (List ℕ)
texts words = map (λ (w : Word). w.bytes.now) words

-- exactly the options that these words name are set
abbrev pub IsSetOf : List (List ℕ) → CfgOptions → Type 0
IsSetOf words set = with_named no_options words ≡ Some (options_of set)

-- why a word sets no option
abbrev pub NoWord : List ℕ → Code → Type 0
NoWord word code.Cfg = option_of word ≡ None
NoWord word code.Tokens = HasTooMany (text_steps word)
NoWord word code.Memory = ⊤
NoWord word c = NoText word c

-- why one of these words sets none
abbrev pub NoSet : List (List ℕ) → Code → Type 0
NoSet words c = Any (λ word. NoWord word c) words
