pub mod BytesSink
pub mod BytesSource
pub mod LineBuffer
pub mod ReadSource
pub mod Sink
pub mod WriteSink
