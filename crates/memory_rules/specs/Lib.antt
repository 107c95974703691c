pub mod MemoryRules
