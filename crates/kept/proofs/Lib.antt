pub mod Setting
pub mod LabelsKept
pub mod LinksKept
pub mod TagsKept
pub mod ThreadsKept
pub mod ObjectsKept
pub mod StoreKept
pub mod MemoryKept
