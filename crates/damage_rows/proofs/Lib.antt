pub mod TableLaws
pub mod RangeLaws
pub mod RangeWalk
