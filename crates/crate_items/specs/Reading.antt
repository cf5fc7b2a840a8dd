-- What a file has.
use Rattle.std.specs.Prelude.{◌≡◌, ◌⊎◌, ◌≤◌, ◌^◌, ℕ, List, length, Ok, Err, IsUtf8, string_bytes}
use Rattle.bridge.specs.ReadText.{HasTooMany}
use Rattle.bridge.specs.TokenSteps.{text_reading, text_steps}
use Rattle.bridge.specs.declared.reading.outcome.ReadFault.{ReadFault}
use Rattle.cfg_options.specs.Conditions.{Options}
use Rattle.crate_items.specs.Items.{items_of_events, text_items}
use Rattle.crate_walk.specs.declared.files.Content.{Content}
use Rattle.crate_walk.specs.declared.files.Content.TheVariants.{Text, Unread}
use Rattle.crate_walk.specs.declared.files.Unread.TheVariants as unread
use Rattle.tt_data.specs.Forest.{Forest}

-- a file with this text has this: the text and its items, or why they cannot be read
abbrev pub IsContentOf : Options → List ℕ → Content → Type 0
IsContentOf options text (Text same events) =
    (f : Forest) × (text_reading text ≡ Ok f) × (string_bytes same ≡ text)
    × (items_of_events events ≡ text_items options f)
IsContentOf options text (Unread (unread.Fault at)) =
    (fault : ReadFault) × (text_reading text ≡ Err fault) × (at ≡ fault.range.start)
IsContentOf options text (Unread unread.TooLong) =
    (2 ^ 32 ≤ length text) ⊎ HasTooMany (text_steps text)
IsContentOf options text c = ⊥

-- a file of these bytes has this
abbrev pub IsContentOfBytes : Options → List ℕ → Content → Type 0
IsContentOfBytes options bytes (Unread unread.NotUtf8) = IsUtf8 bytes → ⊥
IsContentOfBytes options bytes c = IsContentOf options bytes c
