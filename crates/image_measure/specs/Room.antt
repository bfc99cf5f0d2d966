-- When the code can write an image, or take one: no contract of an export cites this.
use Rattle.std.specs.Prelude.{ℕ, ◌*◌, ◌≤◌, ◌≡◌, List}
use Rattle.config.specs.declared.Config.{Config}
use Rattle.gathering.specs.Gather.{Short}
use Rattle.entries.specs.declared.Entry.{Entry}
use Rattle.image_format.specs.Image.{assembled_in, cached_in, total}

-- Memories of u and v bytes have room for what these entries have, and n bytes for an image of them.
pub record Rooms (c : Config) (entries : List Entry) (u v n : ℕ) : Type 0 where
  pub upload : u ≡ 16 * c.upload
  pub response : v ≡ 16 * c.response
  pub assembled : Short c.upload (assembled_in entries)
  pub cached : Short c.response (cached_in entries)
  pub room : total entries ≤ n
