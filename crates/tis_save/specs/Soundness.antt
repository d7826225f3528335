-- What a save gives are programs.
use Rattle.std.specs.Prelude.{◌≡◌, ℕ, List, Ok}
use Rattle.tis_base.specs.Tiles.{Tiles}
use Rattle.tis_asm.specs.Programs.{Programs, ArePrograms, IsSound, program_at}
use Rattle.tis_save.specs.Reading.{save_of}

-- programs of these tiles, whose jumps stay inside
pub record AreSound (tiles : Tiles) (programs : Programs) : Type 0 where
  pub tiles_are : programs.tiles ≡ tiles
  pub are : ArePrograms programs
  pub sound : (tile : ℕ) → IsSound (program_at programs.programs tile)

-- each text that is a save of some tiles gives such programs
abbrev pub SavesAreSound : Type 0
SavesAreSound = (text : List ℕ) (tiles : Tiles) (programs : Programs) → save_of text tiles ≡ Ok programs → AreSound tiles programs
