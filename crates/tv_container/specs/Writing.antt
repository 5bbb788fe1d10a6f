-- Bytes that are appended to a name a piece at a time, and what that does to the outside.
use Rattle.std.specs.Prelude.{◌≡◌, ℕ, List, ◌++◌, option_map}
use Rattle.tv_files.specs.Outside.{Outside, with_more, MissesOnly, NoneFell}

-- where contents are known, these bytes stand after those that the name had
abbrev pub Adds : Outside → Outside → List ℕ → List ℕ → Type 0
Adds old new name bytes = new.contents ≡ option_map (with_more name bytes) old.contents

-- some bytes were added to a name, and nothing else was done: printed words stay, no count fell, and `absent` changes
-- only where the name isn't there
pub record OnlyAppends (old new : Outside) (name : List ℕ) : Type 0 where
  pub more : List ℕ
  pub contents : Adds old new name more
  pub said : new.said ≡ old.said
  pub later : NoneFell old new
  pub there : MissesOnly old new name

-- a first part of the bytes was added to the name, and the rest is held
pub record Passes (old new : Outside) (name bytes held : List ℕ) : Type 0 where
  pub front : List ℕ
  pub split : bytes ≡ front ++ held
  pub contents : Adds old new name front
