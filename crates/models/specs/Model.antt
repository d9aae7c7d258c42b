-- Document 01: "A model has a name, a default table (ppo) and 0 to 16 fences, each a name and a table."
use Rattle.std.specs.Prelude.{ℕ, ◌≤◌, List, length}
use Rattle.tables.specs.declared.table.Table.{Table}
use Rattle.tables.specs.Table.{Clean}
use Rattle.texts.specs.NamePart.{Each, NameFormed}

pub record Fence : Type 0 where
  pub name : List ℕ
  pub table : Table

pub record Description : Type 0 where
  pub name : List ℕ
  pub ppo : Table
  pub fences : List Fence

-- a table without stray bits is known by its sixteen cells
pub record FenceFormed (f : Fence) : Type 0 where
  pub name : NameFormed f.name
  pub table : Clean f.table

-- what a model must be, the equality of its fences' names aside
pub record Formed (d : Description) : Type 0 where
  pub name : NameFormed d.name
  pub ppo : Clean d.ppo
  pub few : length d.fences ≤ 16
  pub each : Each FenceFormed d.fences
