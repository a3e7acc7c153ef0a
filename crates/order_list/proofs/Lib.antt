mod Examples
pub mod SegmentLemmas
pub mod OpenLemmas
pub mod ListLemmas
pub mod SoundLemmas
pub mod CallLemmas
pub mod StayLemmas
pub mod PlaceLemmas
pub mod PoolLemmas
pub mod PoolCallLemmas
