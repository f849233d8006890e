mod CellsOfAllStops
pub mod MinutesWithinLimits
pub mod MinutesCounted
mod Masks
mod RankBitByBit
mod RankAmongMinutes
mod RankIsCell
mod AccessByStops
pub mod CellsExist
pub mod CellsUnique
